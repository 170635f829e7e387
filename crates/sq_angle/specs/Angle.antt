-- An angle's value.
use Rattle.sq_angle.specs.declared.angle.Angle.{Angle}
use Rattle.sq_angle.specs.Fraction.{Fraction}

-- the value in degrees, not reduced
abbrev pub degrees : Angle → Fraction
degrees a = record { num = a.num; den = a.den }
