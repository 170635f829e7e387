use Rattle.sq_track.proofs.Worlds.WorkedRows.{true_places}
use Rattle.sq_track.proofs.worked.true_places.Goals as goal

pub returns : goal.returns
returns c = true_places
