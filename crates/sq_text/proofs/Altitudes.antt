-- Every airborne position has one altitude.
use Rattle.std.proofs.Common.{◌≡◌, ◌≢◌, ℕ, zero, suc, sym, ◌≤◌, ◌<◌, ◌/◌, ◌%◌, ◌^◌, ◌*◌, ◌+◌, pos, ◌-ℤ◌, subst, refl}
use Rattle.std.proofs.Common.{arith, inl, inr}
use Rattle.std.proofs.lemmas.Bool.{cases_lt}
use Rattle.std.proofs.Math.Nat.{eq-zero-or-pos}
use Rattle.std.proofs.lemmas.Int.{ints}
use Rattle.sq_message.specs.declared.air.AirFields.{AirFields}
use Rattle.sq_message.specs.declared.air.Altitude.{Altitude}
use Rattle.sq_message.specs.declared.air.Altitude.TheVariants.{Missing, Feet, Raw}
use Rattle.sq_message.specs.Altitudes.{IsAltitude, IsField}
use Rattle.sq_message.specs.Parts.{air_parts}
use Rattle.sq_message.proofs.FeetLemmas.{one_altitude, split}
use Rattle.sq_text.specs.Altitudes.{AltitudeReader}

-- the meaning of a barometric field that is not zero, by its Q bit
with_q : (code field : ℕ) → code ≤ 18 → field < 4096 → field ≢ 0 → (q : ℕ) → q ≡ field / 16 % 2
    → (meaning : Altitude) × IsAltitude code field meaning
with_q code field low small some zero is =
    let split_so : IsField field (field / 32) 0 (field % 16) =
    subst (λ q. IsField field (field / 32) q (field % 16)) (sym is) (split field small) in
    (Raw field, (refl, inr (some, (field / 32, field % 16, split_so))))
with_q code field low small some (suc zero) is =
    let split_so : IsField field (field / 32) 1 (field % 16) =
    subst (λ q. IsField field (field / 32) q (field % 16)) (sym is) (split field small) in (
      Feet (pos (25 * (field / 32 * 2 ^ 4 + field % 16)) -ℤ pos 1000),
      (low, (field / 32, field % 16, split_so, omega (arith, ints))),
    )
with_q code field low small some (suc (suc q)) is = absurd (omega (arith, is))

-- the meaning of a barometric field
barometric : (code field : ℕ) → code ≤ 18 → field < 4096 → (meaning : Altitude) × IsAltitude code field meaning
barometric code field low small =
    elim (eq-zero-or-pos field) [
      | inl none ↦ (Missing, (low, none))
      | inr some ↦ with_q code field low small (λ e. absurd (omega (arith, e, some))) (field / 16 % 2) refl
    ]

pub some_altitude : (fields : AirFields) → let parts = air_parts fields in
    (meaning : Altitude) × IsAltitude parts.type_code parts.altitude meaning
some_altitude fields =
    elim (cases_lt fields.type_code 19) [
      | inl low ↦ barometric fields.type_code fields.altitude (omega (arith, low)) fields.altitude_in
      | inr high ↦ (Raw fields.altitude, (refl, inl (omega (arith, high, fields.type_code_in))))
    ]

pub one_reading : (a b : AltitudeReader) (fields : AirFields) → a.read fields ≡ b.read fields
one_reading a b fields =
    one_altitude fields.type_code fields.altitude (a.read fields) (b.read fields) (a.reads fields) (b.reads fields)

-- a function that reads every altitude
pub altitudes : AltitudeReader
altitudes = record { read = λ fields. (some_altitude fields).0; reads = λ fields. (some_altitude fields).1 }
