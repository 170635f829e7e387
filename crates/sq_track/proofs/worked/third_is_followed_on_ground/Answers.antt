use Rattle.sq_track.proofs.Worlds.WorkedGroundRows.{third_is_followed}
use Rattle.sq_track.proofs.worked.third_is_followed_on_ground.Goals as goal

pub returns : goal.returns
returns c = third_is_followed
