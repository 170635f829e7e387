use Rattle.sq_message.proofs.Equal.{equal_received}
use Rattle.sq_message.proofs.pins.equal_received.Goals as goal

pub returns : goal.returns
returns c = rw c.eq.ensures (equal_received c.args.received.now c.args.other.now)
