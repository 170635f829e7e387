use Rattle.std.proofs.Common.{rules, List, ℕ, Ok, Err, refl, subst}
use Rattle.squitter_c.specs.declared.faults.Reason.TheVariants as reasons
use Rattle.squitter_c.specs.Angles.{StandsIn}
use Rattle.squitter_c.proofs.angles.squitter_text_of_angle.Goals as goal

pub returns-in-Some : goal.returns-in-Some
returns-in-Some c =
    let stands = subst (λ (text : List ℕ). StandsIn text c.fill.new.out) c.as_str.ensures.value c.fill.ensures in (
      Ok c.in-Some.angle,
      c.in-Some.ensures.value,
      ((c.decimal7-text.result.bytes, c.decimal7-text.ensures.text, stands), refl),
    )

pub returns-in-None : goal.returns-in-None
returns-in-None c = (Err reasons.NoAngle, (search rules, refl), (refl, c.of.ensures))
