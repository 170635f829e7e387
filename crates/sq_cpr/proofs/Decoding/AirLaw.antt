-- Airborne pairs are decoded with the origin as the reference.
use Rattle.std.proofs.Common.{◌≡◌, ℕ, ◌*◌, ◌<◌, ◌≤◌, ℤ, pos, ◌+ℤ◌, ◌*ℤ◌, unsigned_abs, refl, arith, Result, Ok, Err}
use Rattle.std.proofs.Math.IntN.{negsuc}
use Rattle.std.proofs.lemmas.Int.{ints}
use Rattle.sq_angle.specs.Fraction.{Fraction, whole}
use Rattle.sq_angle.specs.Whole.{IsCongruent}
use Rattle.sq_angle.proofs.Congruence.{congruent_sym, congruent_trans}
use Rattle.sq_zones.specs.declared.parity.Parity.{Parity}
use Rattle.sq_zones.specs.declared.parity.Parity.TheVariants.{Even, Odd}
use Rattle.sq_cpr.specs.declared.faults.PairFault.{PairFault}
use Rattle.sq_cpr.specs.declared.faults.PairFault.TheVariants.{OutOfRange, ZoneCounts}
use Rattle.sq_cpr.specs.Code.{CodeNumbers}
use Rattle.sq_cpr.specs.Span.{air}
use Rattle.sq_cpr.specs.Grid.{Point, codes_of_zone, circle}
use Rattle.sq_cpr.specs.Near.{IsRepresentative, angle_at}
use Rattle.sq_cpr.specs.Close.{IsClosePair, count_at, zones_of}
use Rattle.sq_cpr.specs.Pair.{CodePair, of_parity, AreLatitudes, AreInRange, AreAt, IsPointOfPair, IsPointOfPairAt}
use Rattle.sq_cpr.specs.Pair.{PairAnswer, AirPairAnswer}
use Rattle.sq_cpr.specs.DecodeLaws.{OneAirPairAnswer}
use Rattle.sq_cpr.proofs.Decoding.Pairs.{some_zones, close_pair, paired_latitudes, one_representative, turned_even}
use Rattle.sq_cpr.proofs.Decoding.Pairs.{turned_odd}
use Rattle.sq_cpr.proofs.Decoding.PairLaw.{out_and_in, zones_of_pair, one_pair_answer}
use Rattle.sq_cpr.proofs.Decoding.ZonePairs.{zone_exists}

-- a latitude in -90 to 90 degrees is a representative at 0
pub at_zero : (zones : ℕ) (a : ℤ) → 0 < zones → unsigned_abs (pos 360 *ℤ a) ≤ 90 * (zones * codes_of_zone)
    → IsRepresentative 360 (whole 0) (angle_at 360 zones a)
at_zero zones (pos n) h k = record { above = omega (arith, ints); at_most = omega (arith, ints) }
at_zero zones (negsuc n) h k = record { above = omega (arith, ints); at_most = omega (arith, ints) }

pub both_at_zero : (p q : ℤ) → AreInRange 360 p q → AreAt 360 (whole 0) p q
both_at_zero p q h = record { even = at_zero 60 p (omega arith) h.even; odd = at_zero 59 q (omega arith) h.odd }

pub air_answer : (codes : CodePair) (lon : Fraction) (answer : Result Point PairFault) →
    PairAnswer air codes (whole 0) lon answer → AirPairAnswer codes answer
air_answer codes lon (Ok p) k = k.of_pair
air_answer codes lon (Err OutOfRange) k =
    λ p q pair inside. out_and_in 360 codes.even codes.odd (whole 0) k.0 k.1 p q (omega arith) (omega arith) k.2 k.3
    k.4 pair (both_at_zero p q inside) inside
air_answer codes lon (Err (ZoneCounts a b)) k = (k.0, k.1, k.2, k.4)

-- close latitudes have representatives at any reference
pub some_latitudes : (w : ℕ) (even odd : CodeNumbers) (lat : Fraction) → 0 < w → 0 < lat.den
    → (p q : ℤ) × AreLatitudes w even odd p q × AreAt w lat p q
some_latitudes w even odd lat h d =
    let z = zone_exists 60 59 even.lat odd.lat in
    let a = one_representative w 60 (pos even.lat +ℤ pos codes_of_zone *ℤ z.0) lat h (omega arith) d in
    let b = one_representative w 59 (pos odd.lat +ℤ pos codes_of_zone *ℤ z.0) lat h (omega arith) d in (
      a.0,
      b.0,
      close_pair w 60 59 even.lat odd.lat z.0 a.0 b.0 h (omega arith)
          (omega arith) paired_latitudes z.1 a.1.0 b.1.0,
      record { even = a.1.1; odd = b.1.1 },
    )

-- the newest of close longitudes has a representative at any reference
turned_newest : (w n m even odd : ℕ) (newest : Parity) (b c r : ℤ) → 0 < w → 0 < n → 0 < m
    → IsClosePair w n m even odd b c →
    IsCongruent (of_parity newest n m * codes_of_zone) r (of_parity newest b c)
    → (p q : ℤ) × IsClosePair w n m even odd p q × (of_parity newest p q ≡ r)
turned_newest w n m even odd Even b c r h i j k l = (r, c, turned_even w n m even odd b c r h i j l k, refl)
turned_newest w n m even odd Odd b c r h i j k l = (b, r, turned_odd w n m even odd b c r h i j l k, refl)

zones_of_newest : (newest : Parity) (count : ℕ)
    → of_parity newest (zones_of Even count) (zones_of Odd count) ≡ zones_of newest count
zones_of_newest Even count = refl
zones_of_newest Odd count = refl

-- a point of an airborne pair, with a known representative of the longitude at 0
air_point_with : (codes : CodePair) (p : Point) (k : IsPointOfPair air codes p)
    (b c r : ℤ) →
    IsClosePair 360 (zones_of Even (count_at 360 Even k.even_lat))
    (zones_of Odd (count_at 360 Even k.even_lat)) codes.even.lon codes.odd.lon b c → of_parity codes.newest b c ≡ r →
    IsCongruent (zones_of codes.newest (count_at 360 Even k.even_lat) * codes_of_zone) r
    (of_parity codes.newest k.even_lon k.odd_lon) →
    IsRepresentative 360 (whole 0) (angle_at 360 (zones_of codes.newest (count_at 360 Even k.even_lat)) r)
    → IsPointOfPairAt air codes (whole 0) (whole 0) p
air_point_with codes p k b c r pair e around there =
    let count : ℕ = count_at 360 Even k.even_lat in
    let zones : p.zones ≡ zones_of codes.newest count = zones_of_pair air codes.even codes.odd codes.newest p k in
    let full : circle p.zones 1 ≡ zones_of codes.newest count * codes_of_zone = rw zones (omega arith) in
    record {
      of_pair = record {
        even_lat = k.even_lat;
        odd_lat = k.odd_lat;
        even_lon = b;
        odd_lon = c;
        latitudes = k.latitudes;
        in_range = k.in_range;
        counts = k.counts;
        longitudes = pair;
        of_grid = k.of_grid;
        parity = k.parity;
        lat_index = k.lat_index;
        lon_index = congruent_trans k.lon_index (rw (full, e) (congruent_sym around));
      };
      lat_at = both_at_zero k.even_lat k.odd_lat k.in_range;
      lon_at = rw (zones, e) there;
    }

air_point_at : (codes : CodePair) (p : Point) → IsPointOfPair air codes p
    → IsPointOfPairAt air codes (whole 0) (whole 0) p
air_point_at codes p k =
    let count : ℕ = count_at 360 Even k.even_lat in
    let one = one_representative 360 (zones_of codes.newest count) (of_parity codes.newest k.even_lon k.odd_lon)
    (whole 0) (omega arith) (some_zones codes.newest count) (omega arith) in
    let around : IsCongruent (of_parity codes.newest (zones_of Even count) (zones_of Odd count) * codes_of_zone) one.0
    (of_parity codes.newest k.even_lon k.odd_lon) = rw (zones_of_newest codes.newest count) one.1.0 in
    let pair = turned_newest 360 (zones_of Even count)
    (zones_of Odd count) codes.even.lon codes.odd.lon codes.newest k.even_lon k.odd_lon one.0 (omega arith)
    (some_zones Even count)
    (some_zones Odd count) k.longitudes around in
    air_point_with codes p k pair.0 pair.1 one.0 pair.2 pair.3 one.1.0 one.1.1

pub air_is_at_origin : (codes : CodePair) (answer : Result Point PairFault) →
    AirPairAnswer codes answer → PairAnswer air codes (whole 0) (whole 0) answer
air_is_at_origin codes (Ok p) k = air_point_at codes p k
air_is_at_origin codes (Err OutOfRange) k =
    let found = some_latitudes 360 codes.even codes.odd (whole 0) (omega arith) (omega arith) in
    (found.0, found.1, found.2, found.3, k found.0 found.1 found.2)
air_is_at_origin codes (Err (ZoneCounts a b)) k = (k.0, k.1, k.2, both_at_zero k.0 k.1 k.3.in_range, k.3)

pub one_air_pair_answer : OneAirPairAnswer
one_air_pair_answer codes answer other h k =
    one_pair_answer air refl codes (whole 0) (whole 0) answer other (omega arith) (omega arith)
    (air_is_at_origin codes answer h) (air_is_at_origin codes other k)
