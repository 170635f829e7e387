use Rattle.sq_message.proofs.One.{one_reading as the_law}
use Rattle.sq_message.proofs.pins.one_reading.Goals as goal

pub returns : goal.returns
returns c = the_law
