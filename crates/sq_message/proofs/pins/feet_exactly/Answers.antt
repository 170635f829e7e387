use Rattle.sq_message.proofs.FeetLemmas.{feet_exactly as the_law}
use Rattle.sq_message.proofs.pins.feet_exactly.Goals as goal

pub returns : goal.returns
returns c = the_law
