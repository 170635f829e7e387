-- Frames have at most one place, or one fault.
use Rattle.std.proofs.lemmas.Int.{ints}
use Rattle.std.proofs.Common.{arith, ◌≡◌, ◌∙◌, Option, None, Some, Result, Ok, Err, inl, inr, ◌⊎◌, ap, refl, sym, subst}
use Rattle.sq_angle.specs.declared.position.Position.{Position}
use Rattle.sq_bits.specs.declared.frame.Frame.{Frame}
use Rattle.sq_cpr.specs.Span.{Span, air, ground}
use Rattle.sq_cpr.specs.Grid.{Point}
use Rattle.sq_message.specs.declared.place.Place.{Place}
use Rattle.sq_message.specs.declared.place.Place.TheVariants.{Air, Ground}
use Rattle.sq_message.specs.declared.place.PlaceFault.{PlaceFault}
use Rattle.sq_message.specs.declared.squitter.FrameFault.{FrameFault}
use Rattle.sq_message.specs.declared.squitter.Squitter.{Squitter}
use Rattle.sq_message.specs.Parts.{squitter_parts}
use Rattle.sq_message.specs.Places.{IsLocalPlace, IsPairPlace}
use Rattle.sq_message.specs.Spelling.{IsReading}
use Rattle.sq_message.proofs.One.{one_reading}
use Rattle.sq_message.proofs.OnePlace.{one_local_place, one_pair_place}
use Rattle.sq_text.specs.Faults.{of_frame}
use Rattle.squitter_c.specs.declared.faults.Reason.{Reason}
use Rattle.squitter_c.specs.declared.faults.Reason.TheVariants as reasons
use Rattle.squitter_c.specs.declared.plain.PlainPosition.{PlainPosition}
use Rattle.squitter_c.specs.declared.zones.PlainZones.{PlainZones}
use Rattle.squitter_c.specs.Decoding.{IsLocalAnswer, IsLowestPlace, IsPairAnswer, IsSiteAnswer}
use Rattle.squitter_c.specs.Faults.{as_it_is}
use Rattle.squitter_c.specs.OneAnswers.{OnePlace}
use Rattle.squitter_c.specs.Plain.{IsOfDegrees, PlainIsPosition}
use Rattle.squitter_c.specs.Zones.{AreZonesOf, AreZonesOfPlace}
use Rattle.squitter_c.proofs.OnePlain.{is_position, one_lowest_place, one_of_degrees}
use Rattle.squitter_c.proofs.OneTelling.{one_telling}

-- the result for a place or its fault
abbrev Placed : Result Place PlaceFault → Result Place Reason → Type 0
Placed (Ok place) answer = answer ≡ Ok place
Placed (Err fault) answer = answer ≡ Err (reasons.Place fault)

one_placed : (found : Result Place PlaceFault) (r s : Result Place Reason) → Placed found r → Placed found s → r ≡ s
one_placed (Ok place) r s h k = h ∙ sym k
one_placed (Err fault) r s h k = h ∙ sym k

-- the result for what a frame was read as, continued with its squitter
abbrev Read : Result Squitter FrameFault → (Squitter → Result Place Reason → Type 0) → Result Place Reason
    → Type 0
Read (Ok q) Next answer = Next q answer
Read (Err fault) Next answer = answer ≡ Err (reasons.Line (of_frame fault))

one_read : (reading : Result Squitter FrameFault) (Next : Squitter → Result Place Reason → Type 0)
    (r s : Result Place Reason) → ((q : Squitter) → Next q r → Next q s → r ≡ s) → Read reading Next r
    → Read reading Next s → r ≡ s
one_read (Ok q) Next r s one h k = one q h k
one_read (Err fault) Next r s one h k = h ∙ sym k

abbrev OfFrame : Frame → (Squitter → Result Place Reason → Type 0) → Result Place Reason → Type 0
OfFrame frame Next answer = (reading : Result Squitter FrameFault) × IsReading frame reading × Read reading Next answer

one_of_frame : (frame : Frame) (Next : Squitter → Result Place Reason → Type 0) (r s : Result Place Reason)
    → ((q : Squitter) → Next q r → Next q s → r ≡ s) → OfFrame frame Next r → OfFrame frame Next s → r ≡ s
one_of_frame frame Next r s one (a, a_is, h) (b, b_is, k) =
    one_read a Next r s one h (subst (λ t. Read t Next s) (sym (one_reading frame a b a_is b_is)) k)

-- ---- near a reference

abbrev Near : Position → Squitter → Result Place Reason → Type 0
Near reference q answer = (found : Result Place PlaceFault) × IsLocalPlace (squitter_parts q).me reference found
    × Placed found answer

one_near : (reference : Position) (q : Squitter) (r s : Result Place Reason) → Near reference q r
    → Near reference q s → r ≡ s
one_near reference q r s (a, a_is, h) (b, b_is, k) =
    one_placed a r s h (subst (λ t. Placed t s) (sym (one_local_place q reference a b a_is b_is)) k)

-- the reference is checked first
abbrev NearPlain : Frame → PlainPosition → Result Place Reason → Type 0
NearPlain frame plain answer = ((¬ (PlainIsPosition plain)) × (answer ≡ Err reasons.NoPosition))
    ⊎ (PlainIsPosition plain
    × ((reference : Position) → IsOfDegrees plain reference → OfFrame frame (Near reference) answer))

-- the position of fractions that are a valid position
position_of : (plain : PlainPosition) → PlainIsPosition plain → (p : Position) × IsOfDegrees plain p
position_of plain h = (
  record {
    lat = record { num = plain.lat.num; den = plain.lat.den; in_range = h.lat };
    lon = record { num = plain.lon.num; den = plain.lon.den; in_range = h.lon };
    in_range = h.both;
  },
  record { lat = refl; lon = refl },
)

near_plain : (frame : Frame) (plain : PlainPosition) (r : Result Place Reason) → IsLocalAnswer frame plain r
    → NearPlain frame plain r
unfolding IsLocalAnswer
near_plain frame plain (Ok place) (reference, deg, (q, spells, local)) = inr (
  is_position plain reference deg,
  λ other deg'. (
    Ok q,
    spells,
    (
      Ok place,
      subst (λ x. IsLocalPlace (squitter_parts q).me x (Ok place))
          (one_of_degrees plain reference other deg deg') local,
      refl,
    ),
  ),
)
near_plain frame plain (Err reasons.NoPosition) h = inl (h, refl)
near_plain frame plain (Err (reasons.Line fault)) (h, (of, of_is, is)) =
    inr (h, λ reference deg. (Err of, of_is, ap (λ f. Err (reasons.Line f)) is))
near_plain frame plain (Err (reasons.Place fault)) (reference, deg, (q, spells, local)) = inr (
  is_position plain reference deg,
  λ other deg'. (
    Ok q,
    spells,
    (
      Err fault,
      subst (λ x. IsLocalPlace (squitter_parts q).me x (Err fault))
          (one_of_degrees plain reference other deg deg') local,
      refl,
    ),
  ),
)
near_plain frame plain (Err other) h = absurd h

one_near_plain : (frame : Frame) (plain : PlainPosition) (r s : Result Place Reason) → NearPlain frame plain r
    → NearPlain frame plain s → r ≡ s
one_near_plain frame plain r s (inl h) (inl k) = h.1 ∙ sym k.1
one_near_plain frame plain r s (inl h) (inr k) = absurd (h.0 k.0)
one_near_plain frame plain r s (inr h) (inl k) = absurd (k.0 h.0)
one_near_plain frame plain r s (inr h) (inr k) =
    let (reference, deg) = position_of plain h.0 in
    one_of_frame frame (Near reference) r s (λ q. one_near reference q r s) (h.1 reference deg) (k.1 reference deg)

one_local : (frame : Frame) (plain : PlainPosition) (r s : Result Place Reason) → IsLocalAnswer frame plain r
    → IsLocalAnswer frame plain s → r ≡ s
one_local frame plain r s h k =
    one_near_plain frame plain r s (near_plain frame plain r h) (near_plain frame plain s k)

-- ---- of a pair

abbrev Paired : Option Position → (o n : Squitter) → Result Place Reason → Type 0
Paired site o n answer = (found : Result Place PlaceFault)
    × IsPairPlace (squitter_parts o) (squitter_parts n) site found × Placed found answer

one_paired : (site : Option Position) (o n : Squitter) (r s : Result Place Reason) → Paired site o n r
    → Paired site o n s → r ≡ s
one_paired site o n r s (a, a_is, h) (b, b_is, k) =
    one_placed a r s h (subst (λ t. Placed t s) (sym (one_pair_place o n site a b a_is b_is)) k)

abbrev OfPair : (older newer : Frame) → Option Position → Result Place Reason → Type 0
OfPair older newer site answer = OfFrame older (λ o. OfFrame newer (Paired site o)) answer

of_pair : (older newer : Frame) (site : Option Position) (r : Result Place Reason)
    → IsPairAnswer older newer site r → OfPair older newer site r
unfolding IsPairAnswer
of_pair older newer site (Ok place) (o, o_is, (n, n_is, pair)) = (Ok o, o_is, (Ok n, n_is, (Ok place, pair, refl)))
of_pair older newer site (Err (reasons.Line fault)) (inl (of, of_is, is)) =
    (Err of, of_is, ap (λ f. Err (reasons.Line f)) is)
of_pair older newer site (Err (reasons.Line fault)) (inr ((o, o_is), (of, of_is, is))) =
    (Ok o, o_is, (Err of, of_is, ap (λ f. Err (reasons.Line f)) is))
of_pair older newer site (Err (reasons.Place fault)) (o, o_is, (n, n_is, pair)) =
    (Ok o, o_is, (Ok n, n_is, (Err fault, pair, refl)))
of_pair older newer site (Err other) h = absurd h

one_pair : (older newer : Frame) (site : Option Position) (r s : Result Place Reason)
    → IsPairAnswer older newer site r → IsPairAnswer older newer site s → r ≡ s
one_pair older newer site r s h k =
    one_of_frame older (λ o. OfFrame newer (Paired site o)) r s
    (λ o. one_of_frame newer (Paired site o) r s (λ n. one_paired site o n r s)) (of_pair older newer site r h)
    (of_pair older newer site s k)

one_pair_at : (older newer : Frame) (plain : PlainPosition) (r s : Result Place Reason)
    → IsSiteAnswer older newer plain r → IsSiteAnswer older newer plain s → r ≡ s
one_pair_at older newer plain r s (inl h) (inl k) = h.1 ∙ sym k.1
one_pair_at older newer plain r s (inl h) (inr (site, deg, k)) = absurd (h.0 (is_position plain site deg))
one_pair_at older newer plain r s (inr (site, deg, h)) (inl k) = absurd (k.0 (is_position plain site deg))
one_pair_at older newer plain r s (inr (site, deg, h)) (inr (other, deg', k)) =
    one_pair older newer (Some site) r s h
    (subst (λ x. IsPairAnswer older newer (Some x) s) (sym (one_of_degrees plain site other deg deg')) k)

-- ---- what is written for a place

one_zones_of : (span : Span) (point : Point) (x y : PlainZones) → AreZonesOf span point x
    → AreZonesOf span point y → x ≡ y
one_zones_of span point x y h k =
    let degrees = h.degrees ∙ sym k.degrees in
    let odd = h.odd ∙ sym k.odd in
    let lat_zones = h.lat_zones ∙ sym k.lat_zones in
    let count = h.zone_count ∙ sym k.zone_count in
    let lon_zones = h.lon_zones ∙ sym k.lon_zones in
    let lat : x.lat_zone ≡ y.lat_zone = omega (arith, ints, h.lat_zone, k.lat_zone) in
    let lon : x.lon_zone ≡ y.lon_zone = omega (arith, h.lon_zone, k.lon_zone) in
    λ i. record {
      lat_zone = lat i;
      lon_zone = lon i;
      degrees = degrees i;
      lat_zones = lat_zones i;
      zone_count = count i;
      lon_zones = lon_zones i;
      odd = odd i;
    }

one_zones : (place : Place) (x y : PlainZones) → AreZonesOfPlace place x → AreZonesOfPlace place y → x ≡ y
one_zones (Air point) x y h k = one_zones_of air point x y h k
one_zones (Ground point) x y h k = one_zones_of ground point x y h k

pub one_place_of : OnePlace
one_place_of = record {
  near = λ frame reference. one_telling _ IsLowestPlace as_it_is (one_local frame reference) one_lowest_place;
  zones = λ frame reference. one_telling _ AreZonesOfPlace as_it_is (one_local frame reference) one_zones;
  pair = λ older newer. one_telling _ IsLowestPlace as_it_is (one_pair older newer None) one_lowest_place;
  pair_at = λ older newer site. one_telling _ IsLowestPlace as_it_is (one_pair_at older newer site) one_lowest_place;
}
