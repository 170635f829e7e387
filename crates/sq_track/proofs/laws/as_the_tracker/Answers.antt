use Rattle.sq_track.proofs.Histories.EntryLaws.{as_the_tracker as the_law}
use Rattle.sq_track.proofs.laws.as_the_tracker.Goals as goal

pub returns : goal.returns
returns c = the_law
