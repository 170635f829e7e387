use Rattle.sq_track.proofs.Histories.SomeAnswer.{some_reply as the_law}
use Rattle.sq_track.proofs.pins.some_reply.Goals as goal

pub returns : goal.returns
returns c = the_law
