use Rattle.squitter_c.proofs.EntryAnswers.{restored_hears_as_saved as the_law}
use Rattle.squitter_c.proofs.tracker_laws.restored_hears_as_saved.Goals as goal

pub returns : goal.returns
returns c = the_law
