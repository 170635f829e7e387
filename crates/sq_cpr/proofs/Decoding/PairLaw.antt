-- Decoding a pair has at most one result.
use Rattle.std.proofs.Common.{◌≡◌, ◌∙◌, ℕ, ◌*◌, ◌<◌, ℤ, pos, ◌+ℤ◌, ◌*ℤ◌, sym, refl, ap, arith, Ok, Err}
use Rattle.sq_angle.specs.Fraction.{Fraction}
use Rattle.sq_angle.specs.Whole.{IsCongruent}
use Rattle.sq_angle.proofs.Congruence.{congruent_sym, congruent_trans, same_below}
use Rattle.sq_zones.specs.declared.parity.Parity.{Parity}
use Rattle.sq_zones.specs.declared.parity.Parity.TheVariants.{Even, Odd}
use Rattle.sq_zones.proofs.ZoneBounds.{zones_at-least}
use Rattle.sq_cpr.specs.declared.faults.PairFault.TheVariants.{OutOfRange, ZoneCounts}
use Rattle.sq_cpr.specs.Code.{CodeNumbers}
use Rattle.sq_cpr.specs.Span.{Span, FitsCircle}
use Rattle.sq_cpr.specs.Grid.{Point, codes_of_zone, grid_latitude, circle}
use Rattle.sq_cpr.specs.Near.{IsRepresentative, angle_at}
use Rattle.sq_cpr.specs.Close.{IsClosePair, count_at, zones_of, HaveOneCount}
use Rattle.sq_cpr.specs.Multiplied.{IsZoneIndex}
use Rattle.sq_cpr.specs.Pair.{CodePair, code_pair, of_parity, AreLatitudes, AreInRange, AreAt, IsPointOfPair}
use Rattle.sq_cpr.specs.Pair.{IsPointOfPairAt, HaveTwoCounts}
use Rattle.sq_cpr.specs.DecodeLaws.{OnePairAnswer}
use Rattle.sq_cpr.proofs.Decoding.Pairs.{some_zones, paired_latitudes, paired_longitudes, pair_at, same_representative}
use Rattle.sq_cpr.proofs.Grids.Spans.{span_limits}
use Rattle.sq_cpr.proofs.Decoding.ZonePairs.{zone_exists}

pub some_count : (w : ℕ) (parity : Parity) (index : ℤ) → 0 < count_at w parity index
some_count w parity index = zones_at-least (grid_latitude w parity index)

-- two pairs of close latitudes at one reference are equal
pub same_latitudes : (w : ℕ) (even odd : CodeNumbers) (lat : Fraction) (p q r s : ℤ) → 0 < w → 0 < lat.den →
    AreLatitudes w even odd p q → AreAt w lat p q → AreLatitudes w even odd r s → AreAt w lat r s → (p ≡ r) × (q ≡ s)
same_latitudes w even odd lat p q r s h d k k_at l l_at =
    let z = zone_exists 60 59 even.lat odd.lat in
    let a = pair_at w 60 59 even.lat odd.lat z.0 p q h (omega arith) (omega arith) paired_latitudes z.1 k in
    let b = pair_at w 60 59 even.lat odd.lat z.0 r s h (omega arith) (omega arith) paired_latitudes z.1 l in (
      same_representative w 60 (pos even.lat +ℤ pos codes_of_zone *ℤ z.0) p r lat h
          (omega arith) d a.0 k_at.even b.0 l_at.even,
      same_representative w 59 (pos odd.lat +ℤ pos codes_of_zone *ℤ z.0) q s lat h
          (omega arith) d a.1 k_at.odd b.1 l_at.odd,
    )

-- the newest of a close pair lies t zones above its code
newest_at : (w count even odd : ℕ) (newest : Parity) (t p q : ℤ) → 0 < w → 0 < count
    → IsZoneIndex (zones_of Even count) (zones_of Odd count) even odd t →
    IsClosePair w (zones_of Even count) (zones_of Odd count) even odd p q →
    IsCongruent (zones_of newest count * codes_of_zone) (of_parity newest p q)
    (pos (of_parity newest even odd) +ℤ pos codes_of_zone *ℤ t)
newest_at w count even odd Even t p q d h z k =
    (pair_at w (zones_of Even count) (zones_of Odd count) even odd t p q d (some_zones Even count)
    (some_zones Odd count) (paired_longitudes count h) z k).0
newest_at w count even odd Odd t p q d h z k =
    (pair_at w (zones_of Even count) (zones_of Odd count) even odd t p q d (some_zones Even count)
    (some_zones Odd count) (paired_longitudes count h) z k).1

-- the newest longitudes of two close pairs at one reference are equal
pub same_longitude : (w count even odd : ℕ) (newest : Parity) (lon : Fraction) (p q r s : ℤ) → 0 < w → 0 < count
    → 0 < lon.den →
    IsClosePair w (zones_of Even count) (zones_of Odd count) even odd p q
    → IsRepresentative w lon (angle_at w (zones_of newest count) (of_parity newest p q)) →
    IsClosePair w (zones_of Even count) (zones_of Odd count) even odd r s
    → IsRepresentative w lon (angle_at w (zones_of newest count) (of_parity newest r s)) →
    of_parity newest p q ≡ of_parity newest r s
same_longitude w count even odd newest lon p q r s d h e k k_at l l_at =
    let z = zone_exists (zones_of Even count) (zones_of Odd count) even odd in
    same_representative w (zones_of newest count) (pos (of_parity newest even odd) +ℤ pos codes_of_zone *ℤ z.0)
    (of_parity newest p q) (of_parity newest r s) lon d (some_zones newest count) e
    (newest_at w count even odd newest z.0 p q d h z.1 k) k_at
    (newest_at w count even odd newest z.0 r s d h z.1 l) l_at

-- a point of a pair has the zones of the even latitude's count
pub zones_of_pair : (span : Span) (even odd : CodeNumbers) (newest : Parity) (p : Point)
    (k : IsPointOfPair span (code_pair even odd newest) p)
    → p.zones ≡ zones_of newest (count_at span.degrees Even k.even_lat)
zones_of_pair span even odd Even p k = k.of_grid.zones ∙ rw (k.parity, k.lat_index) refl
zones_of_pair span even odd Odd p k = k.of_grid.zones ∙ rw (k.parity, k.lat_index, k.counts) refl

pub same_newest : (newest : Parity) (p q r s : ℤ) → p ≡ r → q ≡ s → of_parity newest p q ≡ of_parity newest r s
same_newest Even p q r s e f = e
same_newest Odd p q r s e f = f

same_point : (span : Span) → FitsCircle span → (codes : CodePair) (lat lon : Fraction)
    (x y : Point)
    → 0 < lat.den → 0 < lon.den →
    IsPointOfPairAt span codes lat lon x → IsPointOfPairAt span codes lat lon y → x ≡ y
same_point span e codes lat lon x y d f h k =
    let a = h.of_pair in
    let b = k.of_pair in
    let some = (span_limits span e).0 in
    let same = same_latitudes span.degrees codes.even codes.odd lat a.even_lat a.odd_lat b.even_lat b.odd_lat some d
    a.latitudes h.lat_at b.latitudes k.lat_at in
    let parity : x.parity ≡ y.parity = a.parity ∙ sym b.parity in
    let index : x.lat_index ≡ y.lat_index =
    a.lat_index ∙ same_newest codes.newest a.even_lat a.odd_lat b.even_lat b.odd_lat same.0 same.1 ∙ sym b.lat_index in
    let count : ℕ = count_at span.degrees Even b.even_lat in
    let x_zones : x.zones ≡ zones_of codes.newest count = rw same.0 at
    (zones_of_pair span codes.even codes.odd codes.newest x a) in
    let y_zones : y.zones ≡ zones_of codes.newest count = zones_of_pair span codes.even codes.odd codes.newest y b in
    let zones : x.zones ≡ y.zones = x_zones ∙ sym y_zones in
    let turned : of_parity codes.newest a.even_lon a.odd_lon ≡ of_parity codes.newest b.even_lon b.odd_lon =
    same_longitude span.degrees count codes.even.lon codes.odd.lon codes.newest lon a.even_lon a.odd_lon b.even_lon
    b.odd_lon some (some_count span.degrees Even b.even_lat) f
    (rw same.0 at a.longitudes) (rw x_zones at h.lon_at) b.longitudes (rw y_zones at k.lon_at) in
    let x_here : IsCongruent (circle y.zones span.repeats) (pos x.lon_index)
    (of_parity codes.newest b.even_lon b.odd_lon) =
    rw (zones, turned) at a.lon_index in
    let lon_index : x.lon_index ≡ y.lon_index =
    same_below (circle y.zones span.repeats) x.lon_index y.lon_index (rw zones at a.of_grid.east_west)
    b.of_grid.east_west
    (congruent_trans x_here (congruent_sym b.lon_index)) in
    λ i. record { parity = parity i; lat_index = index i; zones = zones i; lon_index = lon_index i }

-- the latitudes of a pair are not both out of range and in range
pub out_and_in : (w : ℕ) (even odd : CodeNumbers) (lat : Fraction) (p q r s : ℤ) → 0 < w → 0 < lat.den →
    AreLatitudes w even odd p q → AreAt w lat p q → (¬ AreInRange w p q) → AreLatitudes w even odd r s
    → AreAt w lat r s → AreInRange w r s → ⊥
out_and_in w even odd lat p q r s h d k k_at out l l_at inside =
    let same = same_latitudes w even odd lat p q r s h d k k_at l l_at in
    out (record { even = rw same.0 inside.even; odd = rw same.1 inside.odd })

-- the latitudes of a pair do not have both two counts and one
pub two_and_one : (w : ℕ) (even odd : CodeNumbers) (lat : Fraction) (p q r s : ℤ) (e o : ℕ) → 0 < w → 0 < lat.den →
    AreLatitudes w even odd p q → AreAt w lat p q → HaveTwoCounts w p q e o → AreLatitudes w even odd r s
    → AreAt w lat r s → HaveOneCount w r s → ⊥
two_and_one w even odd lat p q r s e o h d k k_at two l l_at one =
    let same = same_latitudes w even odd lat p q r s h d k k_at l l_at in
    two.differ (two.even ∙ rw (same.0, same.1) one ∙ sym two.odd)

pub one_pair_answer : (span : Span) → FitsCircle span → OnePairAnswer span
one_pair_answer span e codes lat lon (Ok x) (Ok y) d f k l =
    ap Ok (same_point span e codes lat lon x y d f k l)
one_pair_answer span e codes lat lon (Ok x) (Err OutOfRange) d f k l =
    absurd (out_and_in span.degrees codes.even codes.odd lat l.0 l.1 k.of_pair.even_lat k.of_pair.odd_lat
    (span_limits span e).0 d l.2 l.3 l.4 k.of_pair.latitudes k.lat_at k.of_pair.in_range)
one_pair_answer span e codes lat lon (Ok x) (Err (ZoneCounts m n)) d f k l =
    absurd (two_and_one span.degrees codes.even codes.odd lat l.0 l.1 k.of_pair.even_lat k.of_pair.odd_lat m n
    (span_limits span e).0 d l.2 l.3 l.4 k.of_pair.latitudes k.lat_at k.of_pair.counts)
one_pair_answer span e codes lat lon (Err OutOfRange) (Ok y) d f k l =
    absurd (out_and_in span.degrees codes.even codes.odd lat k.0 k.1 l.of_pair.even_lat l.of_pair.odd_lat
    (span_limits span e).0 d k.2 k.3 k.4 l.of_pair.latitudes l.lat_at l.of_pair.in_range)
one_pair_answer span e codes lat lon (Err OutOfRange) (Err OutOfRange) d f k l = refl
one_pair_answer span e codes lat lon (Err OutOfRange) (Err (ZoneCounts m n)) d f k l =
    absurd (out_and_in span.degrees codes.even codes.odd lat k.0 k.1 l.0 l.1 (span_limits span e).0 d k.2 k.3 k.4
    l.2 l.3 l.4.in_range)
one_pair_answer span e codes lat lon (Err (ZoneCounts m n)) (Ok y) d f k l =
    absurd (two_and_one span.degrees codes.even codes.odd lat k.0 k.1 l.of_pair.even_lat l.of_pair.odd_lat m n
    (span_limits span e).0 d k.2 k.3 k.4 l.of_pair.latitudes l.lat_at l.of_pair.counts)
one_pair_answer span e codes lat lon (Err (ZoneCounts m n)) (Err OutOfRange) d f k l =
    absurd (out_and_in span.degrees codes.even codes.odd lat l.0 l.1 k.0 k.1 (span_limits span e).0 d l.2 l.3 l.4
    k.2 k.3 k.4.in_range)
one_pair_answer span e codes lat lon (Err (ZoneCounts m n)) (Err (ZoneCounts i j)) d f k l =
    let same = same_latitudes span.degrees codes.even codes.odd lat k.0 k.1 l.0 l.1 (span_limits span e).0 d k.2 k.3
    l.2 l.3 in
    let a : m ≡ i = k.4.even ∙ rw same.0 (sym l.4.even) in
    let b : n ≡ j = k.4.odd ∙ rw same.1 (sym l.4.odd) in
    cc
