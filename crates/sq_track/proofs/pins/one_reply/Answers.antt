use Rattle.sq_track.proofs.Histories.OneReply.{one_reply as the_law}
use Rattle.sq_track.proofs.pins.one_reply.Goals as goal

pub returns : goal.returns
returns c = the_law
