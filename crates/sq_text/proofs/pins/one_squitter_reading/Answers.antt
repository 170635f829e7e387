use Rattle.sq_text.proofs.OneReading.{one_squitter_reading as the_law}
use Rattle.sq_text.proofs.pins.one_squitter_reading.Goals as goal

pub returns : goal.returns
returns c = the_law
