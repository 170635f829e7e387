use Rattle.sq_track.proofs.Worlds.WorkedGround.{true_places}
use Rattle.sq_track.proofs.worked.true_places_on_ground.Goals as goal

pub returns : goal.returns
returns c = true_places
