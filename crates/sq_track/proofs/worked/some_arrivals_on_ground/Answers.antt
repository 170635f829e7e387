use Rattle.sq_track.proofs.Worlds.WorkedGroundRows.{some_worked}
use Rattle.sq_track.proofs.worked.some_arrivals_on_ground.Goals as goal

pub returns : goal.returns
returns c = some_worked
