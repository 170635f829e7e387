use Rattle.sq_track.proofs.Histories.OneAnswer.{one_answer as the_law}
use Rattle.sq_track.proofs.pins.one_answer.Goals as goal

pub returns : goal.returns
returns c = the_law
