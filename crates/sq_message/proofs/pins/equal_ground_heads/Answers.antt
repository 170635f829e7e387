use Rattle.sq_message.proofs.Equal.{equal_ground_heads}
use Rattle.sq_message.proofs.pins.equal_ground_heads.Goals as goal

pub returns : goal.returns
returns c = rw c.eq.ensures (equal_ground_heads c.args.ground.now c.args.other.now)
