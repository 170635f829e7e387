use Rattle.squitter_c.proofs.RestoredSavings.{restored_as_saved}
use Rattle.squitter_c.proofs.tracker_laws.restored_as_saved.Goals as goal

pub returns : goal.returns
returns c = restored_as_saved
