use Rattle.squitter_c.proofs.OnePlaces.{one_place_of}
use Rattle.squitter_c.proofs.pins.one_place.Goals as goal

pub returns : goal.returns
returns c = one_place_of
