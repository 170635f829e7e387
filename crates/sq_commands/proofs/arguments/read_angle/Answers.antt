use Rattle.std.proofs.Common.{inr, refl}
use Rattle.sq_commands.proofs.arguments.read_angle.Goals as goal

pub returns-then-not-is_within-clause-fault : goal.returns-then-not-is_within-clause-fault
returns-then-not-is_within-clause-fault c = inr (
  refl,
  (
    c.in_ok-angle.angle,
    c.in_ok-angle.ensures,
    λ within.
        let bad = c.if-not-is_within.ensures.1 within in
        absurd (cc bad),
  ),
)
