use Rattle.sq_track.proofs.Worlds.WorkedRows.{some_worked}
use Rattle.sq_track.proofs.worked.some_arrivals.Goals as goal

pub returns : goal.returns
returns c = some_worked
