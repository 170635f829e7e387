use Rattle.std.proofs.Common.{inr, refl}
use Rattle.sq_commands.proofs.arguments.read_position.Goals as goal

pub returns-in-Err-read_angle : goal.returns-in-Err-read_angle
returns-in-Err-read_angle c = inr (
  c.in-Err-read_angle.fault,
  refl,
  (c.in-Ok.angle, c.in-Ok.ensures.ok, c.in-Ok.ensures.within),
  c.in-Err-read_angle.ensures.fault,
)
