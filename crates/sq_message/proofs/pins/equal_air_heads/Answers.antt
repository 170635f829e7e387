use Rattle.sq_message.proofs.Equal.{equal_air_heads}
use Rattle.sq_message.proofs.pins.equal_air_heads.Goals as goal

pub returns : goal.returns
returns c = rw c.eq.ensures (equal_air_heads c.args.head.now c.args.other.now)
