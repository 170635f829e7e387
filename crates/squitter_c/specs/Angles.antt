-- Calls for angles: the text of an angle, the angle of a text, and the zone count of a latitude.
use Rattle.std.specs.Prelude.{◌≡◌, ◌<◌, ℕ, List, length, slice_index, Result, Ok, Err}
use Rattle.sq_angle.specs.declared.angle.Angle.{Angle}
use Rattle.sq_angle.specs.declared.read.AngleFault.{AngleFault}
use Rattle.sq_angle.specs.Angle.{degrees}
use Rattle.sq_angle.specs.Decimal.{IsDecimal7}
use Rattle.sq_angle.specs.Fraction.{IsWithin}
use Rattle.sq_angle.specs.Reading.{IsReading}
use Rattle.sq_zones.specs.Zones.{zones_at}
use Rattle.squitter_c.specs.declared.faults.Fault.{Fault}
use Rattle.squitter_c.specs.declared.faults.Reason.{Reason}
use Rattle.squitter_c.specs.declared.faults.Reason.TheVariants as reasons
use Rattle.squitter_c.specs.declared.plain.PlainAngle.{PlainAngle}
use Rattle.squitter_c.specs.Faults.{Tells, as_it_is, of_angles}
use Rattle.squitter_c.specs.Plain.{IsLowestOf, PlainIsAngle, fraction_of}

-- the bytes begin with the text, and all bytes after it are 0, at least one
pub record StandsIn (text bytes : List ℕ) : Type 0 where
  pub ended : length text < length bytes
  pub each : (k : ℕ) → slice_index bytes k ≡ slice_index text k

-- the bytes hold the text with seven decimals, and then zeros
abbrev pub HoldsDecimal7 : Angle → List ℕ → Type 0
HoldsDecimal7 angle bytes = (text : List ℕ) × IsDecimal7 (degrees angle) text × StandsIn text bytes

-- the angle of a fraction, or the reason why there is none
abbrev pub IsAngleAnswer : PlainAngle → Result Angle Reason → Type 0
IsAngleAnswer plain (Ok angle) = degrees angle ≡ fraction_of plain
IsAngleAnswer plain (Err reason) = (¬ (PlainIsAngle plain)) × (reason ≡ reasons.NoAngle)

-- the result of writing an angle with seven decimals
abbrev pub IsAngleWritten : PlainAngle → (old new : List ℕ) → Fault → Type 0
IsAngleWritten plain old new fault =
    (answer : Result Angle Reason) × IsAngleAnswer plain answer × Tells HoldsDecimal7 as_it_is answer old new fault

-- the angle in lowest terms
abbrev pub IsLowestAngle : Angle → PlainAngle → Type 0
IsLowestAngle angle plain = IsLowestOf (degrees angle) plain

-- the result of parsing an angle
abbrev pub IsAngleRead : List ℕ → (old new : PlainAngle) → Fault → Type 0
IsAngleRead text old new fault =
    (answer : Result Angle AngleFault) × IsReading text answer × Tells IsLowestAngle of_angles answer old new fault

-- the fraction is a valid angle from -90 to 90 degrees
pub record IsLatitude (plain : PlainAngle) : Type 0 where
  pub angle : PlainIsAngle plain
  pub within : IsWithin 90 (fraction_of plain)

-- the zone count of a latitude, or the reason why there is none
abbrev pub IsZoneAnswer : PlainAngle → Result ℕ Reason → Type 0
IsZoneAnswer plain (Ok count) = IsLatitude plain × (count ≡ zones_at (fraction_of plain))
IsZoneAnswer plain (Err reason) = (¬ (IsLatitude plain)) × (reason ≡ reasons.NoLatitude)

-- the written number is the result
abbrev pub IsItself : ℕ → ℕ → Type 0
IsItself answer written = written ≡ answer

-- the result of the zone count of a latitude
abbrev pub IsZoneCount : PlainAngle → (old new : ℕ) → Fault → Type 0
IsZoneCount plain old new fault =
    (answer : Result ℕ Reason) × IsZoneAnswer plain answer × Tells IsItself as_it_is answer old new fault
