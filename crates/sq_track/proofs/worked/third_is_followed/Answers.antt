use Rattle.sq_track.proofs.Worlds.WorkedRows.{third_is_followed}
use Rattle.sq_track.proofs.worked.third_is_followed.Goals as goal

pub returns : goal.returns
returns c = third_is_followed
