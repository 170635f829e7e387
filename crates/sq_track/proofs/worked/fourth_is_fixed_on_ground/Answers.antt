use Rattle.sq_track.proofs.Worlds.WorkedGroundRows.{fourth_is_fixed}
use Rattle.sq_track.proofs.worked.fourth_is_fixed_on_ground.Goals as goal

pub returns : goal.returns
returns c = fourth_is_fixed
