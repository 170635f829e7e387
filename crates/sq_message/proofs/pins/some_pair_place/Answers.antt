use Rattle.sq_message.proofs.OnePlace.{some_pair_place}
use Rattle.sq_message.proofs.pins.some_pair_place.Goals as goal

pub returns : goal.returns
returns c = some_pair_place
