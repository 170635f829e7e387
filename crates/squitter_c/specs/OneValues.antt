-- A plain value represents at most one value, and a result has at most one plain form.
use Rattle.std.specs.Prelude.{◌≡◌}
use Rattle.sq_angle.specs.declared.angle.Angle.{Angle}
use Rattle.sq_angle.specs.declared.position.Position.{Position}
use Rattle.sq_track.specs.declared.heard.Heard.{Heard}
use Rattle.squitter_c.specs.declared.heard.PlainHeard.{PlainHeard}
use Rattle.squitter_c.specs.declared.plain.PlainAngle.{PlainAngle}
use Rattle.squitter_c.specs.declared.plain.PlainPosition.{PlainPosition}
use Rattle.squitter_c.specs.Heard.{IsPlainHeard}
use Rattle.squitter_c.specs.Plain.{IsAngleOf, IsOfDegrees}

-- a fraction is that of at most one angle, and two fractions are those of at most one position
pub record OneValue : Type 0 where
  pub angle : (plain : PlainAngle) (a b : Angle) → IsAngleOf plain a → IsAngleOf plain b → a ≡ b
  pub position : (plain : PlainPosition) (a b : Position) → IsOfDegrees plain a → IsOfDegrees plain b → a ≡ b

-- a result has at most one plain form
abbrev pub OneHeard : Type 0
OneHeard = (heard : Heard) (x y : PlainHeard) → IsPlainHeard heard x → IsPlainHeard heard y → x ≡ y
