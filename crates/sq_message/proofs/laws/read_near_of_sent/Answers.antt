use Rattle.sq_message.specs.Kinds.{head_of}
use Rattle.sq_message.proofs.SentFrames.{near_of_sent}
use Rattle.sq_message.proofs.laws.read_near_of_sent.Goals as goal

pub returns-clause-point : goal.returns-clause-point
returns-clause-point g c =
    near_of_sent g.F.Kind.kind (head_of g.F.Kind.kind g.F.Kind.fields c.args.head) c.args.parity c.args.position.now
    c.args.reference.now _ c.read_spelled-squitter.result c.place_local-place.result
    c.frame_sent-frame.ensures.sent c.read_spelled-squitter.ensures c.place_local-place.ensures
