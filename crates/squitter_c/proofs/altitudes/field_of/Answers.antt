use Rattle.std.proofs.Common.{ℤ, subst, to_z-of_z}
use Rattle.sq_message.specs.Altitudes.{IsFieldOfFeet}
use Rattle.squitter_c.proofs.altitudes.field_of.Goals as goal

-- the field is the one that the callee returns, for the feet as they are read back
pub returns-in-Some : goal.returns-in-Some
returns-in-Some c =
    subst (λ (feet : ℤ). IsFieldOfFeet c.in-Some.field feet) (to_z-of_z c.ranges.feet)
    c.in-Some.ensures.field
