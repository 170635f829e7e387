use Rattle.squitter_c.proofs.EntryAnswers.{one_heard_by_entry as the_law}
use Rattle.squitter_c.proofs.tracker_laws.one_heard_by_entry.Goals as goal

pub returns : goal.returns
returns c = the_law
