use Rattle.sq_message.specs.Kinds.{head_of}
use Rattle.sq_message.proofs.SameZones.{same_zones}
use Rattle.sq_message.proofs.laws.frames.Goals as goal

pub returns-clause-same : goal.returns-clause-same
returns-clause-same g c = λ zones p q in_p in_q of_p of_q rounds_p rounds_q.
    same_zones g.F.Kind.kind (head_of g.F.Kind.kind g.F.Kind.fields c.args.head) c.args.parity c.args.here.now
    c.args.there.now zones p q _ _ in_p in_q (c.frame_sent-from_here.ensures.sent p of_p rounds_p)
    (c.frame_sent-from_there.ensures.sent q of_q rounds_q)
