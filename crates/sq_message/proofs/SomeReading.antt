-- Each frame has a reading.
use Rattle.std.proofs.Common.{◌≡◌, ◌/◌, ◌<◌, ◌^◌, ℕ, Bool, true, false, Result, Ok, Err, refl, sym, subst, inl, inr}
use Rattle.std.proofs.Common.{arith}
use Rattle.std.proofs.lemmas.Bool.{cases_lt, cases_eq}
use lib.Bits.{xor_zero_r}
use Rattle.sq_bits.specs.declared.frame.Frame.{Frame}
use Rattle.sq_bits.specs.Frames.{field_of, frame_number, IsFrame}
use Rattle.sq_bits.specs.Parity.{IsMultiple, IsRemainder}
use Rattle.sq_bits.proofs.Spelled.{field_small, leading_field}
use Rattle.sq_bits.proofs.Same.{frame_number-lt}
use Rattle.sq_bits.proofs.Remainders.{some_remainder}
use Rattle.sq_zones.specs.declared.parity.Parity.{Parity}
use Rattle.sq_zones.specs.declared.parity.Parity.TheVariants.{Even, Odd}
use Rattle.sq_zones.specs.Zones.{parity_index}
use Rattle.sq_cpr.specs.declared.code.Code.{Code}
use Rattle.sq_cpr.specs.Code.{numbers_of}
use Rattle.sq_message.specs.declared.air.AirFields.{AirFields}
use Rattle.sq_message.specs.declared.ground.GroundFields.{GroundFields}
use Rattle.sq_message.specs.declared.other.Other.{Other}
use Rattle.sq_message.specs.declared.squitter.Me.{Me}
use Rattle.sq_message.specs.declared.squitter.Me.TheVariants as kinds
use Rattle.sq_message.specs.declared.squitter.Squitter.{Squitter}
use Rattle.sq_message.specs.declared.squitter.FrameFault.{FrameFault}
use Rattle.sq_message.specs.declared.squitter.FrameFault.TheVariants as faults
use Rattle.sq_message.specs.TypeCodes.{IsAirCode, IsGroundCode, IsOtherCode}
use Rattle.sq_message.specs.Parts.{Airborne, Surface, air_parts, ground_parts}
use Rattle.sq_message.specs.Spelling.{bit, IsReading, Spells, SpellsMe, SpellsAirFields, SpellsGroundFields}
use Rattle.sq_message.specs.Spelling.{SpellsPlace}

-- every one-bit field encodes a Boolean
some_bit : (n : ℕ) → n < 2 → (b : Bool) × (n ≡ bit b)
some_bit n small = elim (cases_eq n 1) [
  | inl one ↦ (true, one)
  | inr other ↦ let none : n ≡ 0 = omega arith in (false, none)
]

-- every bit encodes a parity
some_parity : (n : ℕ) → n < 2 → (p : Parity) × (n ≡ parity_index p)
some_parity n small = elim (cases_eq n 1) [
  | inl one ↦ (Odd, one)
  | inr other ↦ let none : n ≡ 0 = omega arith in (Even, none)
]

flag : (f : Frame) (place : ℕ) → (b : Bool) × (field_of f place 1 ≡ bit b)
flag f place = some_bit (field_of f place 1) (field_small f place 1)

-- every frame has a parity and a code
some_place : (f : Frame) → (p : Parity) × (code : Code) × SpellsPlace f p (numbers_of code)
some_place f =
    let parity = some_parity (field_of f 54 1) (field_small f 54 1) in
    let code : Code = record {
      lat = field_of f 55 17;
      lon = field_of f 72 17;
      lat_below = field_small f 55 17;
      lon_below = field_small f 72 17;
    } in
    (parity.0, code, record { parity_bit = parity.1; lat = refl; lon = refl })

some_airborne : (f : Frame) → IsAirCode (field_of f 33 5) → (m : Me) × SpellsMe f m
some_airborne f is =
    let bit8 = flag f 40 in
    let time = flag f 53 in
    let place = some_place f in
    let fields : AirFields = record {
      type_code = field_of f 33 5;
      status = field_of f 38 2;
      flag = bit8.0;
      altitude = field_of f 41 12;
      time = time.0;
      type_code_in = is;
      status_in = field_small f 38 2;
      altitude_in = field_small f 41 12;
    } in
    let airborne : Airborne = record { fields = fields; parity = place.0; code = place.1 } in
    let spelled : SpellsAirFields f (air_parts fields) =
    record { type_code = refl; status = refl; flag = bit8.1; altitude = refl; time = time.1 } in
    (kinds.Airborne airborne, record { fields = spelled; place = place.2 })

some_surface : (f : Frame) → IsGroundCode (field_of f 33 5) → (m : Me) × SpellsMe f m
some_surface f is =
    let status = flag f 45 in
    let time = flag f 53 in
    let place = some_place f in
    let fields : GroundFields = record {
      type_code = field_of f 33 5;
      movement = field_of f 38 7;
      track_status = status.0;
      track = field_of f 46 7;
      time = time.0;
      type_code_in = is;
      movement_in = field_small f 38 7;
      track_in = field_small f 46 7;
    } in
    let surface : Surface = record { fields = fields; parity = place.0; code = place.1 } in
    let spelled : SpellsGroundFields f (ground_parts fields) =
    record { type_code = refl; movement = refl; track_status = status.1; track = refl; time = time.1 } in
    (kinds.Surface surface, record { fields = spelled; place = place.2 })

some_other : (f : Frame) → IsOtherCode (field_of f 33 5) → (m : Me) × SpellsMe f m
some_other f is =
    let code : field_of f 33 56 / 2 ^ 51 ≡ field_of f 33 5 = leading_field f 33 5 51 in
    let other : Other = record {
      raw = field_of f 33 56;
      raw_in = field_small f 33 56;
      type_code_in = subst IsOtherCode (sym code) is;
    } in
    (kinds.Other other, refl)

-- every type code belongs to one of the three kinds
data Kind (c : ℕ) : Type 0 where
  Air : IsAirCode c → Kind c
  Ground : IsGroundCode c → Kind c
  Else : IsOtherCode c → Kind c

kind_of : (c : ℕ) → Kind c
kind_of c = elim (cases_lt c 5) [
  | inl low ↦ Else (λ air. omega arith, λ ground. omega arith)
  | inr from5 ↦ elim (cases_lt c 9) [
    | inl ground ↦ Ground (omega arith, omega arith)
    | inr from9 ↦ elim (cases_lt c 23) [
      | inr high ↦ Else (λ air. omega arith, λ ground. omega arith)
      | inl below ↦ elim (cases_eq c 19) [
        | inl velocity ↦ Else (λ air. air.2 velocity, λ ground. omega arith)
        | inr position ↦ Air (from9, omega arith, position)
      ]
    ]
  ]
]

some_me : (f : Frame) → (m : Me) × SpellsMe f m
some_me f = elim (kind_of (field_of f 33 5)) [
  | Air is ↦ some_airborne f is
  | Ground is ↦ some_surface f is
  | Else is ↦ some_other f is
]

some_squitter : (f : Frame) → field_of f 1 5 ≡ 17 → IsMultiple (frame_number f) → (q : Squitter) × Spells f q
some_squitter f format multiple =
    let me = some_me f in
    let squitter : Squitter = record {
      ca = field_of f 6 3;
      address = field_of f 9 24;
      me = me.0;
      ca_in = field_small f 6 3;
      address_in = field_small f 9 24;
    } in
    (squitter, record { multiple = multiple; format = format; ca = refl; address = refl; me = me.1 })

pub some_reading : (f : Frame) → IsFrame f → (r : Result Squitter FrameFault) × IsReading f r
some_reading f is = elim (cases_eq (field_of f 1 5) 17) [
  | inr other ↦ (Err (faults.NotDf17 (field_of f 1 5)), (refl, other))
  | inl format ↦
      let remainder = some_remainder (frame_number f) (frame_number-lt f is) in
      elim (cases_eq remainder.0 0) [
        | inr bad ↦ (Err (faults.Parity remainder.0), (format, remainder.1, bad))
        | inl none ↦
            let multiple : IsMultiple (frame_number f) = subst IsMultiple (xor_zero_r (frame_number f))
            (subst (λ r. IsRemainder (frame_number f) r) none remainder.1).1 in
            let read = some_squitter f format multiple in
            (Ok read.0, read.1)
      ]
]
