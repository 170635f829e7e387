use Rattle.std.proofs.Common.{inl}
use Rattle.sq_message.proofs.SentFrames.{sent_again}
use Rattle.sq_message.proofs.laws.local_again.Goals as goal

pub returns-clause-same : goal.returns-clause-same
returns-clause-same c = sent_again c.args.squitter.now c.send_point-again.result c.in_ok-place.place
    (inl (c.args.reference.now, c.in_ok-place.ensures)) c.send_point-again.ensures
