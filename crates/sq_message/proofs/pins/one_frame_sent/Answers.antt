use Rattle.sq_message.proofs.SameZones.{one_sent}
use Rattle.sq_message.proofs.pins.one_frame_sent.Goals as goal

pub returns : goal.returns
returns g c = one_sent g.F.Kind.kind
