use Rattle.std.proofs.Common.{refl}
use Rattle.squitter_c.proofs.decode.give.Goals as goal

-- the position of the place is written
pub returns-in-Ok : goal.returns-in-Ok
returns-in-Ok c = rw c.in-Ok.is ((c.position.result, c.position.ensures, c.plain_position.ensures), refl)
