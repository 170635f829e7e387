use Rattle.sq_message.proofs.Exact.{squitter_of_exactly as the_law}
use Rattle.sq_message.proofs.pins.squitter_of_exactly.Goals as goal

pub returns : goal.returns
returns c = the_law
