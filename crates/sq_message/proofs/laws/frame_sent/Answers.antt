use Rattle.sq_message.specs.Kinds.{head_of}
use Rattle.sq_message.proofs.SentFrames.{frame_of_sent}
use Rattle.sq_message.proofs.laws.frame_sent.Goals as goal

pub returns-clause-sent : goal.returns-clause-sent
returns-clause-sent g c = frame_of_sent g.F.Kind.kind
    (head_of g.F.Kind.kind g.F.Kind.fields c.args.head) c.args.parity c.args.position.now _ _
    c.send_position.ensures.of_each c.each_frame.ensures c.write_frame-frame.ensures.written
