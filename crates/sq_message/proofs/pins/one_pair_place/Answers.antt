use Rattle.sq_message.proofs.OnePlace.{one_pair_place}
use Rattle.sq_message.proofs.pins.one_pair_place.Goals as goal

pub returns : goal.returns
returns c = one_pair_place
