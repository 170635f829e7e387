use Rattle.sq_message.proofs.SomeReading.{some_reading as the_law}
use Rattle.sq_message.proofs.pins.some_reading.Goals as goal

pub returns : goal.returns
returns c = the_law
