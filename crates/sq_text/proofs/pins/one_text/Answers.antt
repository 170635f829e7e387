use Rattle.sq_text.proofs.OneReading.{one_text as the_law}
use Rattle.sq_text.proofs.pins.one_text.Goals as goal

pub returns : goal.returns
returns c = the_law
