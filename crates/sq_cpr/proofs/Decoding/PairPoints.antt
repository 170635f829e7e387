-- The codes of close points decode to these points.
use Rattle.std.proofs.Common.{◌≡◌, ℕ, ◌*◌, ◌<◌, ℤ, pos, neg_ℤ, ◌+ℤ◌, ◌-ℤ◌, ◌*ℤ◌, ◌<ℤ◌, refl, arith, Result, Ok, Err}
use Rattle.sq_angle.specs.Scale.{scales}
use Rattle.std.proofs.lemmas.Int.{ints}
use Rattle.sq_angle.specs.Angle.{degrees as degrees_of}
use Rattle.sq_angle.specs.Fraction.{Fraction, minus, whole}
use Rattle.sq_angle.specs.Position.{lat_of, lon_of}
use Rattle.sq_angle.specs.Whole.{IsCongruent}
use Rattle.sq_angle.specs.declared.position.Position.{Position}
use Rattle.sq_angle.proofs.Congruence.{congruent_sym, congruent_trans, congruent_factor}
use Rattle.sq_zones.specs.declared.parity.Parity.{Parity}
use Rattle.sq_zones.specs.declared.parity.Parity.TheVariants.{Even, Odd}
use Rattle.sq_cpr.specs.declared.faults.PairFault.{PairFault}
use Rattle.sq_cpr.specs.declared.faults.PairFault.TheVariants.{OutOfRange, ZoneCounts}
use Rattle.sq_cpr.specs.Code.{CodeNumbers}
use Rattle.sq_cpr.specs.Span.{Span, FitsCircle, air, ground}
use Rattle.sq_cpr.specs.Grid.{grid_latitude, Point, IsGridPoint, HasCode, codes_of_zone, circle, lat_zones}
use Rattle.sq_cpr.specs.Near.{IsRepresentative, OnSomeTurn, angle_at}
use Rattle.sq_cpr.specs.Close.{IsClosePair, count_at, zones_of, AreCloseLatitudes, HaveOneCount, AreClosePoints}
use Rattle.sq_cpr.specs.Close.{AreTamePoints}
use Rattle.sq_cpr.specs.Pair.{CodePair, code_pair, of_parity, AreLatitudes, AreInRange, AreAt, IsPointOfPair}
use Rattle.sq_cpr.specs.Pair.{IsPointOfPairAt, PairAnswer}
use Rattle.sq_cpr.specs.Slow.{IsSmallerThan, IsPointWithin}
use Rattle.sq_cpr.specs.DecodeLaws.{PairKeepsCode, AirPairKeepsCode, CloseAirPointsAreAnswered}
use Rattle.sq_cpr.specs.DecodeLaws.{CloseGroundPointsAreAnswered, TameAnswer, TameAirPointsAreAnswered}
use Rattle.sq_cpr.specs.DecodeLaws.{TameGroundPointsAreAnswered}
use Rattle.sq_cpr.proofs.Decoding.AirLaw.{at_zero, air_is_at_origin}
use Rattle.sq_cpr.proofs.Decoding.Decoded.{some_lat_zones, some_zones_of_point, code_of_circle}
use Rattle.sq_cpr.proofs.Decoding.PairLaw.{out_and_in, same_latitudes, one_pair_answer}
use Rattle.sq_cpr.proofs.Decoding.Pairs.{one_representative, turned_even, turned_odd}
use Rattle.sq_cpr.proofs.Grids.Spans.{span_limits}

-- whole turns of the circle are whole spans
turn_of_circle : (zones repeats : ℕ) {a b : ℤ} → IsCongruent (circle zones repeats) a b
    → IsCongruent (zones * codes_of_zone) a b
turn_of_circle zones repeats h = congruent_factor (zones * codes_of_zone) repeats h

-- both coordinates of the point are representatives at (lat, lon), the longitude modulo 360 degrees
pub record IsPointAt (span : Span) (lat lon : Fraction) (point : Point) : Type 0 where
  pub north_south : IsRepresentative span.degrees lat (grid_latitude span.degrees point.parity point.lat_index)
  pub east_west : OnSomeTurn (circle point.zones span.repeats) point.lon_index
      (λ turned. IsRepresentative span.degrees lon (angle_at span.degrees point.zones turned))

-- points of an even and an odd code
pub record ArePointsOf (span : Span) (even odd : CodeNumbers) (a b : Point) : Type 0 where
  pub even_is : IsGridPoint span a
  pub odd_is : IsGridPoint span b
  pub even_code : HasCode a even
  pub odd_code : HasCode b odd

-- both points are representatives at (lat, lon)
pub record ArePointsAt (span : Span) (lat lon : Fraction) (a b : Point) : Type 0 where
  pub first : IsPointAt span lat lon a
  pub second : IsPointAt span lat lon b

latitudes_of : (span : Span) (even odd : CodeNumbers) (a b : Point) → ArePointsOf span even odd a b
    → AreCloseLatitudes span.degrees a.lat_index b.lat_index
    → AreLatitudes span.degrees even odd a.lat_index b.lat_index
latitudes_of span even odd a b h k =
    record { even_code = h.even_code.latitude; odd_code = h.odd_code.latitude; close = k }

in_range_of : (span : Span) (even odd : CodeNumbers) (a b : Point) → a.parity ≡ Even → b.parity ≡ Odd
    → ArePointsOf span even odd a b → AreInRange span.degrees a.lat_index b.lat_index
in_range_of span even odd a b e f h = record {
  even = rw e at h.even_is.north_south;
  odd = rw f at h.odd_is.north_south;
}

lat_at_of : (span : Span) (lat lon : Fraction) (a b : Point) → a.parity ≡ Even → b.parity ≡ Odd
    → ArePointsAt span lat lon a b → AreAt span.degrees lat a.lat_index b.lat_index
lat_at_of span lat lon a b e f h = record { even = rw e at h.first.north_south; odd = rw f at h.second.north_south }

module _ (span : Span) (some : 0 < span.degrees) (even odd : CodeNumbers) (lat lon : Fraction) (a b : Point)
    (points : ArePointsOf span even odd a b) (close : AreClosePoints span a b)
    (here : ArePointsAt span lat lon a b) where
  a_zones : a.zones ≡ zones_of Even (count_at span.degrees Even a.lat_index)
  a_zones = rw close.even at points.even_is.zones

  b_zones : b.zones ≡ zones_of Odd (count_at span.degrees Even a.lat_index)
  b_zones = rw (close.odd, ← close.counts) at points.odd_is.zones

  pair : IsClosePair span.degrees a.zones b.zones even.lon odd.lon (pos a.lon_index) (pos b.lon_index)
  pair = record {
    even_code = points.even_code.longitude;
    odd_code = points.odd_code.longitude;
    close = close.longitudes;
  }

  found_even : IsPointOfPairAt span (code_pair even odd Even) lat lon a
  found_even =
      let t = here.first.east_west in
      let turned : IsClosePair span.degrees a.zones b.zones even.lon odd.lon t.0 (pos b.lon_index) =
      turned_even span.degrees a.zones b.zones even.lon odd.lon (pos a.lon_index) (pos b.lon_index) t.0 some
      (some_zones_of_point span a points.even_is) (some_zones_of_point span b points.odd_is)
      (turn_of_circle a.zones span.repeats t.1) pair in
      record {
        of_pair = record {
          even_lat = a.lat_index;
          odd_lat = b.lat_index;
          even_lon = t.0;
          odd_lon = pos b.lon_index;
          latitudes = latitudes_of span even odd a b points close.latitudes;
          in_range = in_range_of span even odd a b close.even close.odd points;
          counts = close.counts;
          longitudes = rw (a_zones, b_zones) at turned;
          of_grid = points.even_is;
          parity = close.even;
          lat_index = refl;
          lon_index = congruent_sym t.1;
        };
        lat_at = lat_at_of span lat lon a b close.even close.odd here;
        lon_at = t.2;
      }

  found_odd : IsPointOfPairAt span (code_pair even odd Odd) lat lon b
  found_odd =
      let t = here.second.east_west in
      let turned : IsClosePair span.degrees a.zones b.zones even.lon odd.lon (pos a.lon_index) t.0 =
      turned_odd span.degrees a.zones b.zones even.lon odd.lon (pos a.lon_index) (pos b.lon_index) t.0 some
      (some_zones_of_point span a points.even_is) (some_zones_of_point span b points.odd_is)
      (turn_of_circle b.zones span.repeats t.1) pair in
      record {
        of_pair = record {
          even_lat = a.lat_index;
          odd_lat = b.lat_index;
          even_lon = pos a.lon_index;
          odd_lon = t.0;
          latitudes = latitudes_of span even odd a b points close.latitudes;
          in_range = in_range_of span even odd a b close.even close.odd points;
          counts = close.counts;
          longitudes = rw (a_zones, b_zones) at turned;
          of_grid = points.odd_is;
          parity = close.odd;
          lat_index = refl;
          lon_index = congruent_sym t.1;
        };
        lat_at = lat_at_of span lat lon a b close.even close.odd here;
        lon_at = t.2;
      }

  found : (newest : Parity) → PairAnswer span (code_pair even odd newest) lat lon (Ok (of_parity newest a b))
  found Even = found_even
  found Odd = found_odd

pub close_points_are_answered : (span : Span) → FitsCircle span
    → (codes : CodePair) (lat lon : Fraction) (answer : Result Point PairFault) (a b : Point)
    → 0 < lat.den → 0 < lon.den →
    PairAnswer span codes lat lon answer → ArePointsOf span codes.even codes.odd a b → AreClosePoints span a b
    → ArePointsAt span lat lon a b → answer ≡ Ok (of_parity codes.newest a b)
close_points_are_answered span e codes lat lon answer a b d f answered points close there =
    one_pair_answer span e codes lat lon answer (Ok (of_parity codes.newest a b)) d f answered
    (found span (span_limits span e).0 codes.even codes.odd lat lon a b points close there codes.newest)

pub tame_points_are_answered : (span : Span) → FitsCircle span
    → (codes : CodePair) (lat lon : Fraction) (answer : Result Point PairFault) (a b : Point)
    → 0 < lat.den → 0 < lon.den →
    PairAnswer span codes lat lon answer → ArePointsOf span codes.even codes.odd a b → AreTamePoints span a b
    → ArePointsAt span lat lon a b → TameAnswer span codes.newest a b answer
tame_points_are_answered span e codes lat lon (Ok p) a b d f k points tame there =
    let same = same_latitudes span.degrees codes.even codes.odd lat k.of_pair.even_lat k.of_pair.odd_lat a.lat_index
    b.lat_index (span_limits span e).0 d k.of_pair.latitudes k.lat_at
    (latitudes_of span codes.even codes.odd a b points tame.latitudes)
    (lat_at_of span lat lon a b tame.even tame.odd there) in
    let counts : HaveOneCount span.degrees a.lat_index b.lat_index = rw (same.0, same.1) at k.of_pair.counts in
    let equal : Ok p ≡ Ok (of_parity codes.newest a b) =
    close_points_are_answered span e codes lat lon (Ok p) a b d f k points
    (record {
      even = tame.even;
      odd = tame.odd;
      latitudes = tame.latitudes;
      counts = counts;
      longitudes = tame.longitudes counts;
    }) there in
    cc
tame_points_are_answered span e codes lat lon (Err OutOfRange) a b d f k points tame there =
    out_and_in span.degrees codes.even codes.odd lat k.0 k.1 a.lat_index b.lat_index (span_limits span e).0 d k.2 k.3
    k.4 (latitudes_of span codes.even codes.odd a b points tame.latitudes)
    (lat_at_of span lat lon a b tame.even tame.odd there)
    (in_range_of span codes.even codes.odd a b tame.even tame.odd points)
tame_points_are_answered span e codes lat lon (Err (ZoneCounts m n)) a b d f k points tame there =
    let same = same_latitudes span.degrees codes.even codes.odd lat k.0 k.1 a.lat_index b.lat_index
    (span_limits span e).0 d k.2 k.3
    (latitudes_of span codes.even codes.odd a b points tame.latitudes)
    (lat_at_of span lat lon a b tame.even tame.odd there) in
    rw (same.0, same.1) at k.4

-- in the air each point is its own representative at 0
at_origin : (p : Point) → IsGridPoint air p → IsPointAt air (whole 0) (whole 0) p
at_origin p h =
    let one = one_representative 360 p.zones (pos p.lon_index) (whole 0) (omega arith) (some_zones_of_point air p h)
    (omega arith) in
    let full : circle p.zones 1 ≡ p.zones * codes_of_zone = omega arith in
    record {
      north_south = at_zero (lat_zones p.parity) p.lat_index (some_lat_zones p.parity) h.north_south;
      east_west = (one.0, rw full one.1.0, one.1.1);
    }

-- on the ground, a point less than 45 degrees from the site is its own representative there
site_low : (xd rd : ℕ) (xn rn : ℤ)
    → pos xd *ℤ (pos 2 *ℤ rn -ℤ pos rd *ℤ pos 90) -ℤ pos (rd * 2) *ℤ xn
    ≡ pos 2 *ℤ (pos (xd * rd) *ℤ neg_ℤ (pos 45) -ℤ pos 1 *ℤ (pos rd *ℤ xn -ℤ pos xd *ℤ rn))
site_low xd rd xn rn = simp scales (omega (arith, ints))

site_high : (xd rd : ℕ) (xn rn : ℤ)
    → pos (rd * 2) *ℤ xn -ℤ pos xd *ℤ (pos 2 *ℤ rn +ℤ pos rd *ℤ pos 90)
    ≡ pos 2 *ℤ (pos 1 *ℤ (pos rd *ℤ xn -ℤ pos xd *ℤ rn) -ℤ pos (xd * rd) *ℤ pos 45)
site_high xd rd xn rn = simp scales (omega (arith, ints))

near_site : (r x : Fraction) → IsSmallerThan (whole 45) (minus x r) → IsRepresentative 90 r x
near_site r x h =
    let low : (pos (x.den * r.den) *ℤ neg_ℤ (pos 45)) <ℤ (pos 1 *ℤ (pos r.den *ℤ x.num -ℤ pos x.den *ℤ r.num)) =
    h.above in
    let high : (pos 1 *ℤ (pos r.den *ℤ x.num -ℤ pos x.den *ℤ r.num)) <ℤ (pos (x.den * r.den) *ℤ pos 45) = h.below in
    record {
      above = omega (arith, ints, site_low x.den r.den x.num r.num, low);
      at_most = omega (arith, ints, site_high x.den r.den x.num r.num, high);
    }

at_site : (p : Point) (site : Position) → IsPointWithin 45 ground p site
    → IsPointAt ground (degrees_of (lat_of site)) (degrees_of (lon_of site)) p
at_site p site h = record {
  north_south = near_site _ _ h.latitudes;
  east_west = let t = h.longitudes in (t.0, t.1, near_site _ _ t.2);
}

pub close_air_points_are_answered : CloseAirPointsAreAnswered
close_air_points_are_answered codes answer a b k a_is b_is a_code b_code close =
    close_points_are_answered air refl codes (whole 0) (whole 0) answer a b (omega arith) (omega arith)
    (air_is_at_origin codes answer k)
    (record { even_is = a_is; odd_is = b_is; even_code = a_code; odd_code = b_code }) close
    (record { first = at_origin a a_is; second = at_origin b b_is })

pub close_ground_points_are_answered : CloseGroundPointsAreAnswered
close_ground_points_are_answered codes site answer a b k a_is b_is a_code b_code close a_at b_at =
    close_points_are_answered ground refl codes _ _ answer a b site.lat.in_range.positive
    site.lon.in_range.positive k
    (record { even_is = a_is; odd_is = b_is; even_code = a_code; odd_code = b_code }) close
    (record { first = at_site a site a_at; second = at_site b site b_at })

pub tame_air_points_are_answered : TameAirPointsAreAnswered
tame_air_points_are_answered codes answer a b k a_is b_is a_code b_code tame =
    tame_points_are_answered air refl codes (whole 0) (whole 0) answer a b (omega arith) (omega arith)
    (air_is_at_origin codes answer k)
    (record { even_is = a_is; odd_is = b_is; even_code = a_code; odd_code = b_code }) tame
    (record { first = at_origin a a_is; second = at_origin b b_is })

pub tame_ground_points_are_answered : TameGroundPointsAreAnswered
tame_ground_points_are_answered codes site answer a b k a_is b_is a_code b_code tame a_at b_at =
    tame_points_are_answered ground refl codes _ _ answer a b site.lat.in_range.positive
    site.lon.in_range.positive k
    (record { even_is = a_is; odd_is = b_is; even_code = a_code; odd_code = b_code }) tame
    (record { first = at_site a site a_at; second = at_site b site b_at })

code_of_newest : (w n m even odd : ℕ) (newest : Parity) (p q : ℤ) → IsClosePair w n m even odd p q
    → IsCongruent codes_of_zone (of_parity newest p q) (pos (of_parity newest even odd))
code_of_newest w n m even odd Even p q h = h.even_code
code_of_newest w n m even odd Odd p q h = h.odd_code

newest_code : (newest : Parity) (even odd : CodeNumbers) (p : Point)
    → IsCongruent codes_of_zone p.lat_index (pos (of_parity newest even.lat odd.lat)) →
    IsCongruent codes_of_zone (pos p.lon_index) (pos (of_parity newest even.lon odd.lon))
    → HasCode p (of_parity newest even odd)
newest_code Even even odd p h k = record { latitude = h; longitude = k }
newest_code Odd even odd p h k = record { latitude = h; longitude = k }

keeps_code : (span : Span) (codes : CodePair) (p : Point) → IsPointOfPair span codes p
    → (p.parity ≡ codes.newest) × HasCode p (of_parity codes.newest codes.even codes.odd)
keeps_code span codes p k = (
  k.parity,
  newest_code codes.newest codes.even codes.odd p
      (rw k.lat_index (code_of_newest span.degrees 60 59 codes.even.lat codes.odd.lat codes.newest k.even_lat k.odd_lat
      k.latitudes))
      (congruent_trans (code_of_circle p.zones span.repeats k.lon_index)
      (code_of_newest span.degrees (zones_of Even (count_at span.degrees Even k.even_lat))
      (zones_of Odd (count_at span.degrees Even k.even_lat)) codes.even.lon codes.odd.lon codes.newest k.even_lon
      k.odd_lon
      k.longitudes)),
)

pub pair_keeps_code : (span : Span) → PairKeepsCode span
pair_keeps_code span codes lat lon p k = keeps_code span codes p k.of_pair

pub air_pair_keeps_code : AirPairKeepsCode
air_pair_keeps_code codes p k = keeps_code air codes p k
