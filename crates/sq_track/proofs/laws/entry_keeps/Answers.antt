use Rattle.sq_track.proofs.Histories.EntryLaws.{entry_keeps as the_law}
use Rattle.sq_track.proofs.laws.entry_keeps.Goals as goal

pub returns : goal.returns
returns c = the_law
