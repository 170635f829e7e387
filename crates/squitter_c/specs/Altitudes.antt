-- Calls for altitudes: the feet of a field, and the field of feet.
use Rattle.std.specs.Prelude.{◌≡◌, ◌<◌, ℕ, ℤ, Result, Ok, Err}
use Rattle.sq_message.specs.Altitudes.{HasField, IsFieldOfFeet}
use Rattle.sq_message.specs.TypeCodes.{IsAirCode}
use Rattle.squitter_c.specs.declared.altitudes.PlainAltitude.{PlainAltitude}
use Rattle.squitter_c.specs.declared.faults.Fault.{Fault}
use Rattle.squitter_c.specs.declared.faults.Reason.{Reason}
use Rattle.squitter_c.specs.declared.faults.Reason.TheVariants as reasons
use Rattle.squitter_c.specs.Angles.{IsItself}
use Rattle.squitter_c.specs.Faults.{Tells, as_it_is}
use Rattle.squitter_c.specs.Fields.{HasMeaning}

-- the type code is one of an airborne position, and the field has 12 bits
pub record IsAirField (code field : ℕ) : Type 0 where
  pub air : IsAirCode code
  pub small : field < 4096

-- the meaning of a field
abbrev pub IsMeaning : (code field : ℕ) → PlainAltitude → Type 0
IsMeaning code field plain = HasMeaning code field plain.form plain.feet

-- the meaning of the altitude field of a type code, or the reason why there is none
abbrev pub IsMeaningAnswer : (code field : ℕ) → Result PlainAltitude Reason → Type 0
IsMeaningAnswer code field (Ok altitude) = IsAirField code field × IsMeaning code field altitude
IsMeaningAnswer code field (Err reason) = (¬ (IsAirField code field)) × (reason ≡ reasons.NoHead)

-- the written altitude is the result
abbrev pub IsAltitudeItself : PlainAltitude → PlainAltitude → Type 0
IsAltitudeItself answer written = written ≡ answer

-- the result of decoding an altitude field to feet
abbrev pub IsFeetOfField : (code field : ℕ) → (old new : PlainAltitude) → Fault → Type 0
IsFeetOfField code field old new fault =
    (answer : Result PlainAltitude Reason) × IsMeaningAnswer code field answer
    × Tells IsAltitudeItself as_it_is answer old new fault

-- the field with Q = 1 that encodes these feet, or the reason why there is none
abbrev pub IsFieldAnswer : (feet : ℤ) → Result ℕ Reason → Type 0
IsFieldAnswer feet (Ok field) = IsFieldOfFeet field feet
IsFieldAnswer feet (Err reason) = (¬ (HasField feet)) × (reason ≡ reasons.NoFeet)

-- the result of encoding feet as a field
abbrev pub IsFieldWritten : (feet : ℤ) → (old new : ℕ) → Fault → Type 0
IsFieldWritten feet old new fault =
    (answer : Result ℕ Reason) × IsFieldAnswer feet answer × Tells IsItself as_it_is answer old new fault
