-- Calls have at most one result.
use Rattle.std.proofs.Common.{◌≡◌, ◌∙◌, ◌+◌, ◌*◌, ◌^◌, ◌-ℤ◌, ℕ, ℤ, pos, Result, Ok, Err, arith, ap, sym, subst}
use Rattle.std.specs.Prelude.{int_lt}
use Rattle.std.proofs.lemmas.Int.{ints}
use Rattle.sq_angle.specs.declared.angle.Angle.{Angle}
use Rattle.sq_angle.specs.declared.position.Position.{Position}
use Rattle.sq_angle.specs.Angle.{degrees}
use Rattle.sq_angle.specs.Bounds.{IsAngle}
use Rattle.sq_angle.specs.Fraction.{Fraction, magnitude}
use Rattle.sq_angle.specs.Spelling.{signed}
use Rattle.sq_angle.proofs.OneReading.{one_angle, one_reading as one_angle_reading}
use Rattle.sq_angle.proofs.Rounding.{nearest_once}
use Rattle.sq_message.specs.declared.air.Altitude.{Altitude}
use Rattle.sq_message.specs.declared.air.Altitude.TheVariants as altitudes
use Rattle.sq_message.specs.declared.squitter.Me.{Me}
use Rattle.sq_message.specs.declared.squitter.Me.TheVariants as kinds
use Rattle.sq_message.specs.declared.squitter.Squitter.{Squitter}
use Rattle.sq_message.specs.Altitudes.{HasField, IsFieldOfFeet}
use Rattle.sq_message.specs.Parts.{squitter_parts}
use Rattle.sq_message.proofs.FeetLemmas.{one_altitude}
use Rattle.sq_message.proofs.One.{one_reading}
use Rattle.sq_text.proofs.One.{one_answer}
use Rattle.sq_text.proofs.OneReading.{one_squitter_reading}
use Rattle.squitter_c.specs.declared.altitudes.PlainAltitude.{PlainAltitude}
use Rattle.squitter_c.specs.declared.e7.DegreesE7.{DegreesE7}
use Rattle.squitter_c.specs.declared.faults.Reason.{Reason}
use Rattle.squitter_c.specs.declared.fields.PlainSquitter.{PlainSquitter}
use Rattle.squitter_c.specs.declared.plain.PlainAngle.{PlainAngle}
use Rattle.squitter_c.specs.declared.plain.PlainPosition.{PlainPosition}
use Rattle.squitter_c.specs.Altitudes.{IsFieldAnswer, IsMeaningAnswer, IsAltitudeItself}
use Rattle.squitter_c.specs.Angles.{IsAngleAnswer, IsItself, IsLowestAngle, IsZoneAnswer}
use Rattle.squitter_c.specs.E7.{AreE7Of, IsE7, IsE7Of, IsPositionAnswer}
use Rattle.squitter_c.specs.Faults.{as_it_is, of_angles, of_frames, of_lines, of_texts}
use Rattle.squitter_c.specs.Fields.{HasMeaning, IsPlainAltitude, IsPlainMe, IsPlainSquitter}
use Rattle.squitter_c.specs.OneAnswers.{OneNumber, OneReading}
use Rattle.squitter_c.specs.Plain.{PlainIsAngle, fraction_of}
use Rattle.squitter_c.specs.Reading.{AreBytesOf}
use Rattle.squitter_c.proofs.OnePlain.{is_position, one_lowest, one_of_degrees}
use Rattle.squitter_c.proofs.OneTelling.{one_telling}

-- ---- squitters in plain numbers

one_plain_altitude : (a : Altitude) (f g : ℕ) (x y : ℤ) → IsPlainAltitude a f x → IsPlainAltitude a g y
    → (f ≡ g) × (x ≡ y)
one_plain_altitude altitudes.Missing f g x y h k = (h.0 ∙ sym k.0, h.1 ∙ sym k.1)
one_plain_altitude (altitudes.Feet n) f g x y h k = (h.0 ∙ sym k.0, h.1 ∙ sym k.1)
one_plain_altitude (altitudes.Raw n) f g x y h k = (h.0 ∙ sym k.0, h.1 ∙ sym k.1)

one_meaning : (code field f g : ℕ) (x y : ℤ) → HasMeaning code field f x → HasMeaning code field g y
    → (f ≡ g) × (x ≡ y)
one_meaning code field f g x y (a, a_is, h) (b, b_is, k) =
    one_plain_altitude a f g x y h
    (subst (λ m. IsPlainAltitude m g y) (sym (one_altitude code field a b a_is b_is)) k)

-- squitters with the same fields are the same
same_squitter : (x y : PlainSquitter) → x.raw ≡ y.raw → x.address ≡ y.address → x.lat ≡ y.lat → x.lon ≡ y.lon
    → x.feet ≡ y.feet → x.altitude ≡ y.altitude → x.altitude_form ≡ y.altitude_form → x.kind ≡ y.kind → x.ca ≡ y.ca
    → x.type_code ≡ y.type_code → x.odd ≡ y.odd → x.time ≡ y.time → x.status ≡ y.status → x.flag ≡ y.flag
    → x.movement ≡ y.movement → x.track_status ≡ y.track_status → x.track ≡ y.track → x ≡ y
same_squitter x y raw address lat lon feet altitude altitude_form kind ca type_code odd time status flag movement
    track_status track = λ i. record {
      raw = raw i;
      address = address i;
      lat = lat i;
      lon = lon i;
      feet = feet i;
      altitude = altitude i;
      altitude_form = altitude_form i;
      kind = kind i;
      ca = ca i;
      type_code = type_code i;
      odd = odd i;
      time = time i;
      status = status i;
      flag = flag i;
      movement = movement i;
      track_status = track_status i;
      track = track i;
    }

-- what all kinds have in common, and then each field
one_me : (me : Me) (x y : PlainSquitter) → x.ca ≡ y.ca → x.address ≡ y.address → IsPlainMe me x → IsPlainMe me y
    → x ≡ y
one_me (kinds.Airborne a) x y ca address h k =
    let means = one_meaning _ _ x.altitude_form y.altitude_form x.feet y.feet h.fields.meaning k.fields.meaning in
    same_squitter x y (h.others.3 ∙ sym k.others.3) address (h.place.lat ∙ sym k.place.lat)
    (h.place.lon ∙ sym k.place.lon) means.1 (h.fields.altitude ∙ sym k.fields.altitude) means.0 (h.kind ∙ sym k.kind)
    ca (h.fields.type_code ∙ sym k.fields.type_code) (h.place.odd ∙ sym k.place.odd)
    (h.fields.time ∙ sym k.fields.time) (h.fields.status ∙ sym k.fields.status) (h.fields.flag ∙ sym k.fields.flag)
    (h.others.0 ∙ sym k.others.0) (h.others.1 ∙ sym k.others.1) (h.others.2 ∙ sym k.others.2)
one_me (kinds.Surface a) x y ca address h k =
    same_squitter x y (h.others.1 ∙ sym k.others.1) address (h.place.lat ∙ sym k.place.lat)
    (h.place.lon ∙ sym k.place.lon) (h.others.0.altitude.2 ∙ sym k.others.0.altitude.2)
    (h.others.0.altitude.0 ∙ sym k.others.0.altitude.0) (h.others.0.altitude.1 ∙ sym k.others.0.altitude.1)
    (h.kind ∙ sym k.kind) ca (h.fields.type_code ∙ sym k.fields.type_code) (h.place.odd ∙ sym k.place.odd)
    (h.fields.time ∙ sym k.fields.time) (h.others.0.bits.0 ∙ sym k.others.0.bits.0)
    (h.others.0.bits.1 ∙ sym k.others.0.bits.1) (h.fields.movement ∙ sym k.fields.movement)
    (h.fields.track_status ∙ sym k.fields.track_status) (h.fields.track ∙ sym k.fields.track)
one_me (kinds.Other a) x y ca address h k =
    same_squitter x y (h.raw ∙ sym k.raw) address (h.place.1 ∙ sym k.place.1) (h.place.2 ∙ sym k.place.2)
    (h.air.altitude.2 ∙ sym k.air.altitude.2) (h.air.altitude.0 ∙ sym k.air.altitude.0)
    (h.air.altitude.1 ∙ sym k.air.altitude.1) (h.kind ∙ sym k.kind) ca (h.type_code ∙ sym k.type_code)
    (h.place.0 ∙ sym k.place.0) (h.place.3 ∙ sym k.place.3) (h.air.bits.0 ∙ sym k.air.bits.0)
    (h.air.bits.1 ∙ sym k.air.bits.1) (h.ground.0 ∙ sym k.ground.0) (h.ground.1 ∙ sym k.ground.1)
    (h.ground.2 ∙ sym k.ground.2)

one_plain_squitter : (q : Squitter) (x y : PlainSquitter) → IsPlainSquitter q x → IsPlainSquitter q y → x ≡ y
one_plain_squitter q x y h k =
    one_me (squitter_parts q).me x y (h.ca ∙ sym k.ca) (h.address ∙ sym k.address) h.me k.me

pub one_reading_of : OneReading
one_reading_of = record {
  frame_of_text = λ text. one_telling _ AreBytesOf of_texts (one_answer text) (λ a x y h k. h ∙ sym k);
  text = λ text. one_telling _ IsPlainSquitter of_lines (one_squitter_reading text) one_plain_squitter;
  frame = λ frame. one_telling _ IsPlainSquitter of_frames (one_reading frame) one_plain_squitter;
}

-- ---- numbers

is_angle : (plain : PlainAngle) (a : Angle) → degrees a ≡ fraction_of plain → PlainIsAngle plain
is_angle plain a same = subst (λ (f : Fraction). IsAngle f.num f.den) same a.in_range

pub one_angle_answer : (plain : PlainAngle) (r s : Result Angle Reason) → IsAngleAnswer plain r → IsAngleAnswer plain s
    → r ≡ s
one_angle_answer plain (Ok a) (Ok b) h k = ap Ok (one_angle a b (h ∙ sym k))
one_angle_answer plain (Ok a) (Err e) h k = absurd (k.0 (is_angle plain a h))
one_angle_answer plain (Err d) (Ok b) h k = absurd (h.0 (is_angle plain b k))
one_angle_answer plain (Err d) (Err e) h k = ap Err (h.1 ∙ sym k.1)

one_position_answer : (plain : PlainPosition) (r s : Result Position Reason) → IsPositionAnswer plain r
    → IsPositionAnswer plain s → r ≡ s
one_position_answer plain (Ok a) (Ok b) h k = ap Ok (one_of_degrees plain a b h k)
one_position_answer plain (Ok a) (Err e) h k = absurd (k.0 (is_position plain a h))
one_position_answer plain (Err d) (Ok b) h k = absurd (h.0 (is_position plain b k))
one_position_answer plain (Err d) (Err e) h k = ap Err (h.1 ∙ sym k.1)

one_zone_answer : (plain : PlainAngle) (r s : Result ℕ Reason) → IsZoneAnswer plain r → IsZoneAnswer plain s → r ≡ s
one_zone_answer plain (Ok a) (Ok b) h k = ap Ok (h.1 ∙ sym k.1)
one_zone_answer plain (Ok a) (Err e) h k = absurd (k.0 h.0)
one_zone_answer plain (Err d) (Ok b) h k = absurd (h.0 k.0)
one_zone_answer plain (Err d) (Err e) h k = ap Err (h.1 ∙ sym k.1)

one_meaning_answer : (code field : ℕ) (r s : Result PlainAltitude Reason) → IsMeaningAnswer code field r
    → IsMeaningAnswer code field s → r ≡ s
one_meaning_answer code field (Ok a) (Ok b) h k =
    let same = one_meaning code field a.form b.form a.feet b.feet h.1 k.1 in
    ap Ok (λ i. record { form = same.0 i; feet = same.1 i })
one_meaning_answer code field (Ok a) (Err e) h k = absurd (k.0 h.0)
one_meaning_answer code field (Err d) (Ok b) h k = absurd (h.0 k.0)
one_meaning_answer code field (Err d) (Err e) h k = ap Err (h.1 ∙ sym k.1)

-- feet have at most one field
one_field : (feet : ℤ) (f g : ℕ) → IsFieldOfFeet f feet → IsFieldOfFeet g feet → f ≡ g
one_field feet f g (high, low, is, means) (high', low', is', means') =
    omega (arith, ints, means, means', is.bits, is'.bits, is.four, is'.four)

-- a fraction has at most one value in units of 10^-7 degree
one_e7 : (x : Fraction) (k m : ℤ) → IsE7 x k → IsE7 x m → k ≡ m
one_e7 x k m (v, v_is, k_is) (w, w_is, m_is) =
    let nearest = nearest_once (magnitude x) 1 10000000 (pos v) (pos w) v_is w_is in
    let same : v ≡ w = omega (arith, ints) in
    k_is ∙ ap (λ n. signed (int_lt x.num (pos 0)) n) same ∙ sym m_is

one_e7_of : (p : Position) (x y : DegreesE7) → AreE7Of p x → AreE7Of p y → x ≡ y
one_e7_of p x y h k =
    let lat = one_e7 (degrees p.lat) x.lat y.lat h.lat k.lat in
    let lon = one_e7 (degrees p.lon) x.lon y.lon h.lon k.lon in
    λ i. record { lat = lat i; lon = lon i }

one_field_answer : (feet : ℤ) (r s : Result ℕ Reason) → IsFieldAnswer feet r → IsFieldAnswer feet s
    → ((field : ℕ) → IsFieldOfFeet field feet → HasField feet) → r ≡ s
one_field_answer feet (Ok a) (Ok b) h k has = ap Ok (one_field feet a b h k)
one_field_answer feet (Ok a) (Err e) h k has = absurd (k.0 (has a h))
one_field_answer feet (Err d) (Ok b) h k has = absurd (h.0 (has b k))
one_field_answer feet (Err d) (Err e) h k has = ap Err (h.1 ∙ sym k.1)

-- a field encodes a multiple of 25 from -1000 to 50175 feet
has_field : (feet : ℤ) (field : ℕ) → IsFieldOfFeet field feet → HasField feet
has_field feet field (high, low, is, means) = record {
  least = omega (arith, ints, means);
  most = omega (arith, ints, means, is.seven, is.four);
  multiple = (pos (high * 2 ^ 4 + low) -ℤ pos 40, omega (arith, ints, means));
}

pub one_number : OneNumber
one_number = record {
  angle = λ text. one_telling _ IsLowestAngle of_angles (one_angle_reading text) one_lowest;
  zones = λ plain. one_telling _ IsItself as_it_is (one_zone_answer plain) (λ a x y h k. h ∙ sym k);
  angle_e7 = λ plain. one_telling _ IsE7Of as_it_is (one_angle_answer plain) (λ a x y h k. one_e7 (degrees a) x y h k);
  position_e7 = λ plain. one_telling _ AreE7Of as_it_is (one_position_answer plain) one_e7_of;
  feet = λ code field. one_telling _ IsAltitudeItself as_it_is (one_meaning_answer code field)
      (λ a x y h k. h ∙ sym k);
  field = λ feet. one_telling _ IsItself as_it_is (λ r s h k. one_field_answer feet r s h k (has_field feet))
      (λ a x y h k. h ∙ sym k);
}
