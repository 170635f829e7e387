use Rattle.sq_message.proofs.Exact.{pair_place_exactly as the_law}
use Rattle.sq_message.proofs.pins.pair_place_exactly.Goals as goal

pub returns : goal.returns
returns c = the_law
