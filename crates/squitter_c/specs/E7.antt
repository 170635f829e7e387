-- Degrees in units of 10^-7 degree, rounded like the seven decimals of a text.
use Rattle.std.specs.Prelude.{◌≡◌, ℕ, ℤ, pos, int_lt, Result, Ok, Err}
use Rattle.sq_angle.specs.declared.angle.Angle.{Angle}
use Rattle.sq_angle.specs.declared.position.Position.{Position}
use Rattle.sq_angle.specs.Angle.{degrees}
use Rattle.sq_angle.specs.Decimal.{ten_millionth}
use Rattle.sq_angle.specs.Fraction.{Fraction, magnitude}
use Rattle.sq_angle.specs.Nearest.{IsNearest}
use Rattle.sq_angle.specs.Position.{lat_of, lon_of}
use Rattle.sq_angle.specs.Spelling.{signed}
use Rattle.squitter_c.specs.declared.e7.DegreesE7.{DegreesE7}
use Rattle.squitter_c.specs.declared.faults.Fault.{Fault}
use Rattle.squitter_c.specs.declared.faults.Reason.{Reason}
use Rattle.squitter_c.specs.declared.faults.Reason.TheVariants as reasons
use Rattle.squitter_c.specs.declared.plain.PlainAngle.{PlainAngle}
use Rattle.squitter_c.specs.declared.plain.PlainPosition.{PlainPosition}
use Rattle.squitter_c.specs.Angles.{IsAngleAnswer}
use Rattle.squitter_c.specs.Faults.{Tells, as_it_is}
use Rattle.squitter_c.specs.Plain.{IsOfDegrees, PlainIsPosition}

-- the number of units of 10^-7 degree nearest to the magnitude of x, with x's sign
abbrev pub IsE7 : Fraction → ℤ → Type 0
IsE7 x k = (v : ℕ) × IsNearest (magnitude x) ten_millionth (pos v) × (k ≡ signed (int_lt x.num (pos 0)) v)

-- an angle in units of 10^-7 degree
abbrev pub IsE7Of : Angle → ℤ → Type 0
IsE7Of angle k = IsE7 (degrees angle) k

-- an angle in units of 10^-7 degree, or the fault if the fraction is not a valid angle
abbrev pub IsAngleE7 : PlainAngle → (old new : ℤ) → Fault → Type 0
IsAngleE7 plain old new fault =
    (answer : Result Angle Reason) × IsAngleAnswer plain answer × Tells IsE7Of as_it_is answer old new fault

-- both coordinates in units of 10^-7 degree
pub record AreE7Of (position : Position) (written : DegreesE7) : Type 0 where
  pub lat : IsE7 (degrees (lat_of position)) written.lat
  pub lon : IsE7 (degrees (lon_of position)) written.lon

-- the position of these fractions, or the reason why there is none
abbrev pub IsPositionAnswer : PlainPosition → Result Position Reason → Type 0
IsPositionAnswer plain (Ok position) = IsOfDegrees plain position
IsPositionAnswer plain (Err reason) = (¬ (PlainIsPosition plain)) × (reason ≡ reasons.NoPosition)

-- a position in units of 10^-7 degree, or the fault if the fractions are not a valid position
abbrev pub IsPositionE7 : PlainPosition → (old new : DegreesE7) → Fault → Type 0
IsPositionE7 plain old new fault =
    (answer : Result Position Reason) × IsPositionAnswer plain answer × Tells AreE7Of as_it_is answer old new fault
