use Rattle.sq_message.proofs.OnePlace.{some_local_place}
use Rattle.sq_message.proofs.pins.some_local_place.Goals as goal

pub returns : goal.returns
returns c = some_local_place
