-- Proofs of the exact conditions.
use Rattle.std.proofs.Common.{◌≡◌, ◌≤◌, ℕ, inl, inr, arith, ap, refl, sym, subst, Option, Result, Ok}
use Rattle.sq_bits.specs.declared.frame.Frame.{Frame}
use Rattle.sq_bits.specs.Frames.{IsFrame}
use Rattle.sq_angle.specs.Angle.{degrees}
use Rattle.sq_angle.specs.Position.{lat_of, lon_of}
use Rattle.sq_angle.specs.declared.position.Position.{Position}
use Rattle.sq_zones.specs.declared.parity.Parity.TheVariants.{Even, Odd}
use Rattle.sq_cpr.proofs.Grids.Codes.{one_pair_of_zones}
use Rattle.sq_message.specs.declared.air.Altitude.{Altitude}
use Rattle.sq_message.specs.declared.air.Altitude.TheVariants.{Missing, Feet, Raw}
use Rattle.sq_message.specs.Altitudes.{IsAltitude, IsOtherForm}
use Rattle.sq_message.specs.Parts.{SquitterParts, squitter_parts}
use Rattle.sq_message.specs.Exactly.{AltitudeExactly, PairPlaceExactly, SquitterOfExactly, DecodedByCalls}
use Rattle.sq_message.specs.Exactly.{EachHasItsZones, NearReferenceExactly, LieAtExactly, NoPlaceExactly}
use Rattle.sq_message.specs.Exactly.{NoPlaceNearExactly, OneAnswerNear, OneAnswerOfPair, OnePlaceOfNewer}
use Rattle.sq_message.specs.Exactly.{ReadAsPairExactly, ReadNearExactly, SentAgainExactly}
use Rattle.sq_message.specs.Kinds.{Kind, span_of}
use Rattle.sq_message.specs.declared.squitter.Squitter.{Squitter}
use Rattle.sq_message.specs.declared.place.Place.{Place}
use Rattle.sq_message.specs.declared.place.PlaceFault.{PlaceFault}
use Rattle.sq_message.specs.Calls.{IsPlaceOfPair}
use Rattle.sq_message.specs.Headline.{IsReadAsPair}
use Rattle.sq_message.specs.Places.{IsLocalPlace}
use Rattle.sq_message.specs.Spelling.{IsReading}
use Rattle.sq_message.proofs.SameZones.{fits}
use Rattle.sq_message.proofs.One.{one_reading, one_squitter}
use Rattle.sq_message.proofs.OnePlace.{one_local_place, one_pair_place, some_local_place, some_pair_place}
use Rattle.sq_message.proofs.SentFrames.{moved}
use Rattle.sq_message.proofs.SomeReading.{some_reading}

is_missing : (code : ℕ) (meaning : Altitude) → code ≤ 18 → IsAltitude code 0 meaning → meaning ≡ Missing
is_missing code Missing low h = refl
is_missing code (Feet feet) low (below, (high, bits, field, of_feet)) = absurd (omega (arith, field.bits))
is_missing code (Raw raw) low (same, inl above) = absurd (omega (arith, above, low))
is_missing code (Raw raw) low (same, inr h) = absurd (h.0 refl)

is_height : (code field : ℕ) (meaning : Altitude) → 20 ≤ code → IsAltitude code field meaning → meaning ≡ Raw field
is_height code field Missing high h = absurd (omega (arith, h.0, high))
is_height code field (Feet feet) high h = absurd (omega (arith, h.0, high))
is_height code field (Raw raw) high h = ap Raw h.0

is_other_form : (code field : ℕ) → code ≤ 18 → IsAltitude code field (Raw field) → IsOtherForm field
is_other_form code field low (same, inl above) = absurd (omega (arith, above, low))
is_other_form code field low (same, inr h) = h.1

pub altitude_exactly : AltitudeExactly
altitude_exactly = record {
  missing = λ code meaning low. (
    is_missing code meaning low,
    λ e. subst (λ m. IsAltitude code 0 m) (sym e) (low, refl),
  );
  other_form = λ code field low some. (is_other_form code field low, λ h. (refl, inr (some, h)));
  height = λ code field meaning high. (
    is_height code field meaning high,
    λ e. subst (λ m. IsAltitude code field m) (sym e) (refl, inl high),
  );
}

pub squitter_of_exactly : SquitterOfExactly
squitter_of_exactly kind head point squitter = (
  λ h. (
    h.code,
    λ i. record { ca = h.ca i; address = h.address i; me = h.me i },
    h.numbers,
  ),
  λ (code, is, numbers). record {
    ca = ap (λ (s : SquitterParts). s.ca) is;
    address = ap (λ (s : SquitterParts). s.address) is;
    code = code;
    me = ap (λ (s : SquitterParts). s.me) is;
    numbers = numbers;
  },
)

pub pair_place_exactly : PairPlaceExactly
pair_place_exactly = record {
  not_positions = λ older newer site answer no. (
    λ h. h.not_positions no,
    λ e. record {
      not_positions = λ n. e;
      other_address = λ both n. absurd (no both);
      same_address = λ both n. absurd (no both);
    },
  );
  other_address = λ older newer site answer both differ. (
    λ h. h.other_address both differ,
    λ e. record {
      not_positions = λ n. absurd (n both);
      other_address = λ b n. e;
      same_address = λ b same. absurd (differ same);
    },
  );
  same_address = λ older newer site answer both same. (
    λ h. h.same_address both same,
    λ e. record {
      not_positions = λ n. absurd (n both);
      other_address = λ b n. absurd (n same);
      same_address = λ b n. e;
    },
  );
}

-- ---- the premises of the headline

pub decoded_by_calls : DecodedByCalls
decoded_by_calls = record {
  near = λ squitter reference place h. inl (reference, h);
  pair = λ older newer site place h. inr (older, site, h);
}

pub each_has_its_zones : (kind : Kind) → EachHasItsZones kind
each_has_its_zones kind parity x = one_pair_of_zones (span_of kind) (fits kind) parity (degrees (lat_of x))
    (degrees (lon_of x)) x.lat.in_range.positive x.lon.in_range.positive x.in_range

pub near_reference_exactly : (kind : Kind) → NearReferenceExactly kind
near_reference_exactly kind reference point = (λ h. h, λ h. h)

pub lie_at_exactly : LieAtExactly
lie_at_exactly = record { in_air = λ site a b. tt; on_ground = λ site a b. (λ h. h, λ h. h) }

-- ---- the results of calls made in sequence

pub one_answer_near : OneAnswerNear
one_answer_near f r answer other (p, read, placed) (q, again, decoded) =
    one_local_place p r answer other placed
    (subst (λ (s : Squitter). IsLocalPlace (squitter_parts s).me r other) (one_squitter f q p again read) decoded)

pub one_answer_of_pair : OneAnswerOfPair
one_answer_of_pair Even even odd site answer other (p, q, first, second, placed) (x, y, third, fourth, decoded) =
    one_pair_place q p site answer other placed
    (moved y x q p site other (one_squitter odd y q fourth second) (one_squitter even x p third first) decoded)
one_answer_of_pair Odd even odd site answer other (p, q, first, second, placed) (x, y, third, fourth, decoded) =
    one_pair_place p q site answer other placed
    (moved x y p q site other (one_squitter even x p third first) (one_squitter odd y q fourth second) decoded)

pub read_near_exactly : ReadNearExactly
read_near_exactly f r place is = (
  λ near.
      let reading = some_reading f is in
      let (q, same, answers) = near reading.0 reading.1 in
      let answer = some_local_place q r in (
        q,
        subst (IsReading f) same reading.1,
        subst (IsLocalPlace (squitter_parts q).me r) (answers answer.0 answer.1) answer.1,
      ),
  λ read reading h.
      let (q, own, placed) = read in
      (q, one_reading f reading (Ok q) h own, λ answer k. one_local_place q r answer (Ok place) k placed),
)

-- two frames are decoded to a place by some reading of each
AreReadAs : (older newer : Frame) → Option Position → Place → Type 0
AreReadAs older newer site place =
    (p q : Squitter) × IsReading older (Ok p) × IsReading newer (Ok q) × IsPlaceOfPair p q site (Ok place)

read_as : (older newer : Frame) (site : Option Position) (place : Place) → IsFrame older → IsFrame newer
    → IsReadAsPair older newer site place → AreReadAs older newer site place
unfolding AreReadAs
read_as older newer site place is be pair =
    let first = some_reading older is in
    let second = some_reading newer be in
    let (p, q, was, same, answers) = pair first.0 second.0 first.1 second.1 in
    let answer = some_pair_place p q site in (
      p,
      q,
      subst (IsReading older) was first.1,
      subst (IsReading newer) same second.1,
      subst (IsPlaceOfPair p q site) (answers answer.0 answer.1) answer.1,
    )

as_read : (older newer : Frame) (site : Option Position) (place : Place) → AreReadAs older newer site place
    → IsReadAsPair older newer site place
unfolding AreReadAs
as_read older newer site place (p, q, first, second, placed) = λ earlier later h k. (
  p,
  q,
  one_reading older earlier (Ok p) h first,
  one_reading newer later (Ok q) k second,
  λ answer decoded. one_pair_place p q site answer (Ok place) decoded placed,
)

pub read_as_pair_exactly : ReadAsPairExactly
unfolding AreReadAs
read_as_pair_exactly Even even odd site place is be = (
  λ h. let (p, q, first, second, placed) = read_as odd even site place be is h in (q, p, second, first, placed),
  λ h. let (p, q, first, second, placed) = h in as_read odd even site place (q, p, second, first, placed),
)
read_as_pair_exactly Odd even odd site place is be = (
  λ h. read_as even odd site place is be h,
  λ h. as_read even odd site place h,
)

pub one_place_of_newer : OnePlaceOfNewer
one_place_of_newer older newer site p q (x, read, placed) (y, other, decoded) =
    let there = moved y newer x newer site (Ok q) (one_squitter older y x other read) refl decoded in
    let same : ◌≡◌ {A = Result Place PlaceFault} (Ok p) (Ok q) =
    one_pair_place x newer site (Ok p) (Ok q) placed there in
    cc same

pub no_place_near_exactly : NoPlaceNearExactly
no_place_near_exactly f r = (
  λ none place h. none h.0 place h.1 h.2,
  λ none q place read placed. none place (q, read, placed),
)

pub no_place_exactly : NoPlaceExactly
no_place_exactly older newer site = (
  λ none q place read h. none h.0 q place h.1 read h.2,
  λ none p q place first second placed. none q place second (p, first, placed),
)

pub sent_again_exactly : SentAgainExactly
sent_again_exactly f g q place = (
  λ h. (h.read, h.same, (h.sent, h.of_place, h.written)),
  λ (read, same, (sent, of_place, written)). record {
    read = read;
    sent = sent;
    of_place = of_place;
    written = written;
    same = same;
  },
)
