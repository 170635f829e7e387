-- The values that plain values, which are passed to and from C, represent.
use Rattle.std.specs.Prelude.{◌≡◌, ◌<◌, ℕ}
use Rattle.sq_angle.specs.declared.angle.Angle.{Angle}
use Rattle.sq_angle.specs.declared.position.Position.{Position}
use Rattle.sq_angle.specs.Angle.{degrees}
use Rattle.sq_angle.specs.Bounds.{IsAngle, IsPosition}
use Rattle.sq_angle.specs.Fraction.{Fraction}
use Rattle.sq_angle.specs.Lowest.{IsLowestFormOf}
use Rattle.sq_angle.specs.Position.{lat_of, lon_of}
use Rattle.sq_zones.specs.declared.parity.Parity.{Parity}
use Rattle.sq_zones.specs.Zones.{parity_index}
use Rattle.squitter_c.specs.declared.plain.PlainAngle.{PlainAngle}
use Rattle.squitter_c.specs.declared.plain.PlainPosition.{PlainPosition}

-- the value of a plain angle in degrees
abbrev pub fraction_of : PlainAngle → Fraction
fraction_of angle = record { num = angle.num; den = angle.den }

-- the fraction is a valid angle
abbrev pub PlainIsAngle : PlainAngle → Type 0
PlainIsAngle plain = IsAngle plain.num plain.den

-- both are valid angles, and together they are a valid position
pub record PlainIsPosition (plain : PlainPosition) : Type 0 where
  pub lat : PlainIsAngle plain.lat
  pub lon : PlainIsAngle plain.lon
  pub both : IsPosition (fraction_of plain.lat) (fraction_of plain.lon)

-- the angle of this fraction
abbrev pub IsAngleOf : PlainAngle → Angle → Type 0
IsAngleOf plain angle = degrees angle ≡ fraction_of plain

-- the position of these fractions
pub record IsOfDegrees (plain : PlainPosition) (position : Position) : Type 0 where
  pub lat : degrees (lat_of position) ≡ fraction_of plain.lat
  pub lon : degrees (lon_of position) ≡ fraction_of plain.lon

-- the fraction in lowest terms
abbrev pub IsLowestOf : Fraction → PlainAngle → Type 0
IsLowestOf x angle = IsLowestFormOf x (fraction_of angle)

-- both coordinates in lowest terms
pub record IsLowestPosition (position : Position) (plain : PlainPosition) : Type 0 where
  pub lat : IsLowestOf (degrees (lat_of position)) plain.lat
  pub lon : IsLowestOf (degrees (lon_of position)) plain.lon

-- 0 or 1
abbrev pub IsFlag : ℕ → Type 0
IsFlag n = n < 2

-- 0 for even, 1 for odd
abbrev pub IsParity : ℕ → Parity → Type 0
IsParity n parity = n ≡ parity_index parity
