use Rattle.std.proofs.Common.{refl}
use Rattle.squitter_c.specs.Sending.{IsAgainAnswer}
use Rattle.squitter_c.proofs.send.again.Goals as goal

pub returns-in-Some-rounded : goal.returns-in-Some-rounded
unfolding IsAgainAnswer
returns-in-Some-rounded c = (
  c.in-Some.parity,
  c.in-Some.ensures.value,
  (
    c.in-Some-position_of.position,
    c.in-Some-position_of.ensures.value,
    (
      c.in-Ok.squitter,
      c.in-Ok.ensures.read,
      (c.in-Some-rounded.place, c.in-Some-rounded.ensures.1, c.frame_from.ensures),
    ),
  ),
)

pub returns-in-None : goal.returns-in-None
unfolding IsAgainAnswer
returns-in-None c = (
  c.in-Some.ensures.variant.0 refl,
  c.in-Some-position_of.ensures.variant.0 refl,
  (c.in-Ok.squitter, c.in-Ok.ensures.read, c.in-None.ensures, refl),
)
