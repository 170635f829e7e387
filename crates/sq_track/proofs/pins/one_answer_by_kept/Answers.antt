use Rattle.sq_track.proofs.Histories.ByKept.{one_answer_by_kept as the_law}
use Rattle.sq_track.proofs.pins.one_answer_by_kept.Goals as goal

pub returns : goal.returns
returns c = the_law
