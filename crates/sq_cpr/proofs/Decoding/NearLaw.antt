-- Exactly one index is near, and decoding near a reference has at most one result.
use Rattle.std.proofs.Common.{◌≡◌, ◌∙◌, ℕ, ◌*◌, ◌<◌, ℤ, pos, sym, refl, ap, arith, Ok, Err}
use Rattle.std.proofs.lemmas.Int.{ints}
use Rattle.sq_angle.specs.Fraction.{Fraction}
use Rattle.sq_angle.specs.Whole.{ExactlyOne, IsCongruent}
use Rattle.sq_angle.proofs.Congruence.{congruent_sym, congruent_trans, congruent_rem, same_below}
use Rattle.sq_angle.proofs.Floors.{rem_is_pos}
use Rattle.sq_angle.proofs.Sizes.{mul_pos}
use Rattle.sq_zones.specs.declared.parity.Parity.{Parity}
use Rattle.sq_cpr.specs.declared.faults.LocalFault.TheVariants.{OutOfRange}
use Rattle.sq_cpr.specs.Code.{CodeNumbers}
use Rattle.sq_cpr.specs.Span.{Span, FitsCircle}
use Rattle.sq_cpr.specs.Grid.{Point, codes_of_zone, lat_zones, circle}
use Rattle.sq_cpr.specs.Near.{IsNear, IsStrictlyNear, IsNearLongitude, half_zone, angle_at}
use Rattle.sq_cpr.specs.Local.{IsNearLatitude, IsLocalPoint}
use Rattle.sq_cpr.specs.DecodeLaws.{OneNearLatitude, OneNearLongitude, OneLocalAnswer, StrictlyNearIsNear}
use Rattle.sq_cpr.specs.DecodeLaws.{NearPointIsLocal, StrictlyNearPointIsLocal, LocalKeepsCode}
use Rattle.sq_cpr.proofs.Distances.Agree.{near_from_within, within_from_near}
use Rattle.sq_cpr.proofs.Decoding.OneWithin.{one_within}
use Rattle.sq_cpr.proofs.Decoding.ZonePairs.{code_of_turn}
use Rattle.sq_cpr.proofs.Decoding.Decoded.{some_lat_zones, some_zones_of_point, code_of_circle}
use Rattle.sq_cpr.proofs.Grids.Spans.{span_limits}

one_turn : {a b : ℤ} → IsCongruent codes_of_zone a b → IsCongruent (1 * codes_of_zone) a b
one_turn h = record { times = h.times; apart = h.apart }

-- exactly one of the indices of a code is near
pub one_near : (w zones code : ℕ) (r : Fraction) → 0 < w → 0 < zones → 0 < r.den →
    ExactlyOne (λ (index : ℤ). IsCongruent codes_of_zone index (pos code)
    × IsNear (half_zone w zones) r (angle_at w zones index))
one_near w zones code r p q s =
    let one = one_within 1 w zones (pos code) r (omega arith) p s in (
      one.0,
      (code_of_turn 1 one.1.0, near_from_within w zones one.0 r q one.1.1),
      λ y (h : IsCongruent codes_of_zone y (pos code) × IsNear (half_zone w zones) r (angle_at w zones y)). one.2 y
          (one_turn h.0, within_from_near w zones y r q h.1),
    )

pub one_near_latitude : (span : Span) → FitsCircle span → OneNearLatitude span
one_near_latitude span e parity lat code s =
    let one = one_near span.degrees (lat_zones parity) code lat (span_limits span e).0 (some_lat_zones parity) s in (
      one.0,
      record { has_code = one.1.0; near = one.1.1 },
      λ y (h : IsNearLatitude span.degrees parity lat code y). one.2 y (h.has_code, h.near),
    )

pub one_near_longitude : (span : Span) → FitsCircle span → OneNearLongitude span
one_near_longitude span e zones lon code q s =
    let around : ℕ = circle zones span.repeats in
    let positive : 0 < around = mul_pos (zones * codes_of_zone) span.repeats (omega arith) (span_limits span e).2 in
    let one = one_near span.degrees zones code lon (span_limits span e).0 q s in
    let b = rem_is_pos one.0 around positive in
    let back : IsCongruent around one.0 (pos b.0) = rw b.1 at (congruent_rem one.0 around positive) in (
      b.0,
      (b.2, congruent_trans (congruent_sym (code_of_circle zones span.repeats back)) one.1.0, (one.0, back, one.1.1)),
      λ y (h : (y < circle zones span.repeats) × IsCongruent codes_of_zone (pos y) (pos code)
          × IsNearLongitude span zones lon y).
          let turned = h.2 in
          let same : turned.0 ≡ one.0 =
          one.2 turned.0 (congruent_trans (code_of_circle zones span.repeats turned.1) h.1, turned.2) in
          let here : IsCongruent around one.0 (pos y) = rw same at turned.1 in
          same_below around y b.0 h.0 b.2 (congruent_trans (congruent_sym here) back),
    )

-- two near latitudes with the same code are equal
pub same_latitude : (span : Span) → FitsCircle span → (parity : Parity) (lat : Fraction) (code : ℕ) (a b : ℤ)
    → 0 < lat.den →
    IsNearLatitude span.degrees parity lat code a → IsNearLatitude span.degrees parity lat code b → a ≡ b
same_latitude span e parity lat code a b s h k =
    let one = one_near_latitude span e parity lat code s in
    one.2 a h ∙ sym (one.2 b k)

pub same_point : (span : Span) → FitsCircle span → (code : CodeNumbers) (parity : Parity) (lat lon : Fraction)
    (p q : Point)
    → 0 < lat.den → 0 < lon.den →
    IsLocalPoint span code parity lat lon p → IsLocalPoint span code parity lat lon q → p ≡ q
same_point span e code parity lat lon p q s t h k =
    let same_parity : p.parity ≡ q.parity = h.of_parity ∙ sym k.of_parity in
    let index : p.lat_index ≡ q.lat_index =
    same_latitude span e parity lat code.lat p.lat_index q.lat_index s
    (record { has_code = h.has_code.latitude; near = rw h.of_parity at h.near.north_south })
    (record { has_code = k.has_code.latitude; near = rw k.of_parity at k.near.north_south }) in
    let zones : p.zones ≡ q.zones = h.of_grid.zones ∙ rw (same_parity, index) (sym k.of_grid.zones) in
    let one = one_near_longitude span e q.zones lon code.lon (some_zones_of_point span q k.of_grid) t in
    let lon_index : p.lon_index ≡ q.lon_index =
    one.2 p.lon_index (rw zones at h.of_grid.east_west, h.has_code.longitude, rw zones at h.near.east_west)
    ∙ sym (one.2 q.lon_index (k.of_grid.east_west, k.has_code.longitude, k.near.east_west)) in
    λ i. record { parity = same_parity i; lat_index = index i; zones = zones i; lon_index = lon_index i }

pub near_point_is_local : (span : Span) → FitsCircle span → NearPointIsLocal span
near_point_is_local span e code parity lat lon (Ok q) p s t answer p_is p_parity p_code p_near =
    ap Ok (same_point span e code parity lat lon q p s t answer
    (record { of_grid = p_is; of_parity = p_parity; has_code = p_code; near = p_near }))
near_point_is_local span e code parity lat lon (Err OutOfRange) p s t answer p_is p_parity p_code p_near =
    let same : answer.0 ≡ p.lat_index =
    same_latitude span e parity lat code.lat answer.0 p.lat_index s answer.1
    (record { has_code = p_code.latitude; near = rw p_parity at p_near.north_south }) in
    absurd (answer.2 (rw (same, ← p_parity) p_is.north_south))

pub one_local_answer : (span : Span) → FitsCircle span → OneLocalAnswer span
one_local_answer span e code parity lat lon answer (Ok q) s t h k =
    near_point_is_local span e code parity lat lon answer q s t h k.of_grid k.of_parity k.has_code k.near
one_local_answer span e code parity lat lon (Ok p) (Err OutOfRange) s t h k = sym
    (near_point_is_local span e code parity lat lon (Err OutOfRange) p s t k h.of_grid h.of_parity h.has_code h.near)
one_local_answer span e code parity lat lon (Err OutOfRange) (Err OutOfRange) s t h k = refl

strictly_near : (h r x : Fraction) → IsStrictlyNear h r x → IsNear h r x
strictly_near h r x k = record { above = k.above; at_most = omega (arith, ints, k.below) }

pub strictly_near_is_near : (span : Span) → StrictlyNearIsNear span
strictly_near_is_near span lat lon p h =
    let t = h.east_west in
    record {
      north_south = strictly_near _ _ _ h.north_south;
      east_west = (t.0, t.1, strictly_near _ _ _ t.2);
    }

pub strictly_near_point_is_local : (span : Span) → FitsCircle span → StrictlyNearPointIsLocal span
strictly_near_point_is_local span e code parity lat lon answer p s t k p_is p_parity p_code p_near =
    near_point_is_local span e code parity lat lon answer p s t k p_is p_parity p_code
    (strictly_near_is_near span lat lon p p_near)

pub local_keeps_code : (span : Span) → LocalKeepsCode span
local_keeps_code span code parity lat lon p h = (h.of_parity, h.has_code)
