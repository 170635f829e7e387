use Rattle.sq_message.proofs.OnePlace.{one_local_place}
use Rattle.sq_message.proofs.pins.one_local_place.Goals as goal

pub returns : goal.returns
returns c = one_local_place
