use Rattle.std.proofs.Common.{ℤ, SFits, w64, to_z-of_z, Ok, Err, refl, rules, subst, sym}
use Rattle.sq_angle.specs.Angle.{degrees}
use Rattle.squitter_c.specs.declared.faults.Reason.TheVariants as reasons
use Rattle.squitter_c.specs.E7.{IsE7}
use Rattle.squitter_c.proofs.e7.squitter_angle_e7.Goals as goal

pub returns-in-Some : goal.returns-in-Some
returns-in-Some c =
    let fits : SFits w64 c.e7_of.result = record { sfits = c.e7_of.type_inv } in (
      Ok c.in-Some.angle,
      c.in-Some.ensures.value,
      (subst (λ (k : ℤ). IsE7 (degrees c.in-Some.angle) k) (sym (to_z-of_z fits)) c.e7_of.ensures.value, refl),
    )

pub returns-in-None : goal.returns-in-None
returns-in-None c = (Err reasons.NoAngle, (search rules, refl), (refl, c.of.ensures))
