-- Decoding has a result.
use Rattle.std.proofs.Common.{◌⊎◌, inl, inr, ℕ, ◌*◌, ◌<◌, ℤ, pos, ◌+ℤ◌, ◌*ℤ◌, refl, subst, arith, Ok, Err}
use Rattle.std.specs.Prelude.{unsigned_abs}
use Rattle.std.proofs.lemmas.Bool.{cases_eq, cases_lt}
use Rattle.sq_angle.specs.Fraction.{Fraction, whole}
use Rattle.sq_angle.specs.Whole.{IsCongruent}
use Rattle.sq_angle.proofs.Sizes.{mul_pos}
use Rattle.sq_zones.specs.Zones.{lon_zones_at}
use Rattle.sq_zones.specs.declared.parity.Parity.{Parity}
use Rattle.sq_zones.specs.declared.parity.Parity.TheVariants.{Even, Odd}
use Rattle.sq_zones.proofs.ZoneBounds.{lon_zones_at-least}
use Rattle.sq_cpr.specs.declared.faults.LocalFault.TheVariants as locals
use Rattle.sq_cpr.specs.declared.faults.PairFault.TheVariants as pairs
use Rattle.sq_cpr.specs.Span.{Span, FitsCircle, air}
use Rattle.sq_cpr.specs.Grid.{Point, IsLatitude, circle, codes_of_zone, grid_latitude}
use Rattle.sq_cpr.specs.Near.{IsRepresentative, angle_at}
use Rattle.sq_cpr.specs.Close.{HaveOneCount, count_at, zones_of}
use Rattle.sq_cpr.specs.Pair.{CodePair, AreAt, AreInRange, AreLatitudes, IsPointOfPairAt, of_parity}
use Rattle.sq_cpr.specs.DecodeLaws.{SomeAirPairAnswer, SomeLocalAnswer, SomePairAnswer}
use Rattle.sq_cpr.proofs.Decoding.AirLaw.{air_answer, some_latitudes}
use Rattle.sq_cpr.proofs.Distances.CloseLaw.{residue}
use Rattle.sq_cpr.proofs.Decoding.Decoded.{point_of_pair}
use Rattle.sq_cpr.proofs.Decoding.NearLaw.{one_near_latitude, one_near_longitude}
use Rattle.sq_cpr.proofs.Decoding.PairLaw.{some_count}
use Rattle.sq_cpr.proofs.Decoding.Pairs.{newest_of_pair, one_representative, some_zones}
use Rattle.sq_cpr.proofs.Grids.Spans.{span_limits}
use Rattle.sq_cpr.proofs.Decoding.ZonePairs.{zone_exists}

-- the latitude of an index lies in -90 to 90 degrees, or it does not
is_latitude : (w : ℕ) (parity : Parity) (index : ℤ) → IsLatitude w parity index ⊎ (¬ IsLatitude w parity index)
is_latitude w parity index =
    let lat = grid_latitude w parity index in
    elim (cases_lt (90 * lat.den) (unsigned_abs lat.num)) [
      | inl over ↦ inr (λ (h : IsLatitude w parity index). absurd (omega (arith, over, h)))
      | inr within ↦ inl within
    ]

both_latitudes : (w : ℕ) (p q : ℤ) → AreInRange w p q ⊎ (¬ AreInRange w p q)
both_latitudes w p q = elim (is_latitude w Even p) [
  | inr out ↦ inr (λ (h : AreInRange w p q). out h.even)
  | inl even ↦ elim (is_latitude w Odd q) [
    | inr out ↦ inr (λ (h : AreInRange w p q). out h.odd)
    | inl odd ↦ inl (record { even = even; odd = odd })
  ]
]

pub some_local_answer : (span : Span) → FitsCircle span → SomeLocalAnswer span
some_local_answer span e code parity lat lon s t =
    let one = one_near_latitude span e parity lat code.lat s in
    elim (is_latitude span.degrees parity one.0) [
      | inr out ↦ (Err locals.OutOfRange, (one.0, one.1, out))
      | inl inside ↦
          let zones : ℕ = lon_zones_at parity (grid_latitude span.degrees parity one.0) in
          let lons = one_near_longitude span e zones lon code.lon
          (lon_zones_at-least parity (grid_latitude span.degrees parity one.0)) t in
          let point : Point = record { parity = parity; lat_index = one.0; zones = zones; lon_index = lons.0 } in (
            Ok point,
            record {
              of_grid = record { north_south = inside; zones = refl; east_west = lons.1.0 };
              of_parity = refl;
              has_code = record { latitude = one.1.has_code; longitude = lons.1.1 };
              near = record { north_south = one.1.near; east_west = lons.1.2 };
            },
          )
    ]

-- the newest point of close latitudes with one zone count
some_point : (span : Span) → FitsCircle span → (codes : CodePair) (lat lon : Fraction) (p q : ℤ)
    → 0 < lon.den
    → AreLatitudes span.degrees codes.even codes.odd p q → AreAt span.degrees lat p q → AreInRange span.degrees p q
    → HaveOneCount span.degrees p q
    → (point : Point) × IsPointOfPairAt span codes lat lon point
some_point span e codes lat lon p q t pair at inside same =
    let h : 0 < span.degrees = (span_limits span e).0 in
    let count : ℕ = count_at span.degrees Even p in
    let z = zone_exists (zones_of Even count) (zones_of Odd count) codes.even.lon codes.odd.lon in
    let one = one_representative span.degrees (zones_of codes.newest count)
    (pos (of_parity codes.newest codes.even.lon codes.odd.lon) +ℤ pos codes_of_zone *ℤ z.0) lon h
    (some_zones codes.newest count) t in
    let lons = newest_of_pair span.degrees count codes.even.lon codes.odd.lon codes.newest z.0 one.0 h
    (some_count span.degrees Even p)
    z.1 one.1.0 in
    let around : 0 < circle (zones_of codes.newest count) span.repeats =
    mul_pos (zones_of codes.newest count * codes_of_zone) span.repeats
    (mul_pos (zones_of codes.newest count) codes_of_zone (some_zones codes.newest count) (omega arith))
    (span_limits span e).2 in
    let b = residue (circle (zones_of codes.newest count) span.repeats) one.0 around in
    let point : Point = record {
      parity = codes.newest;
      lat_index = of_parity codes.newest p q;
      zones = zones_of codes.newest count;
      lon_index = b.0;
    } in (
      point,
      record {
        of_pair = record {
          even_lat = p;
          odd_lat = q;
          even_lon = lons.0;
          odd_lon = lons.1;
          latitudes = pair;
          in_range = inside;
          counts = same;
          longitudes = lons.2;
          of_grid = point_of_pair span codes.newest point p q inside same refl refl refl b.1;
          parity = refl;
          lat_index = refl;
          lon_index = subst (λ (i : ℤ). IsCongruent (circle (zones_of codes.newest count) span.repeats) (pos b.0) i)
              lons.3
              b.2;
        };
        lat_at = at;
        lon_at = subst (λ (i : ℤ). IsRepresentative span.degrees lon
            (angle_at span.degrees (zones_of codes.newest count) i))
            lons.3 one.1.1;
      },
    )

pub some_pair_answer : (span : Span) → FitsCircle span → SomePairAnswer span
some_pair_answer span e codes lat lon s t =
    let (p, q, pair, at) = some_latitudes span.degrees codes.even codes.odd lat (span_limits span e).0 s in
    elim (both_latitudes span.degrees p q) [
      | inr out ↦ (Err pairs.OutOfRange, (p, q, pair, at, out))
      | inl inside ↦ elim (cases_eq (count_at span.degrees Even p) (count_at span.degrees Odd q)) [
        | inr differ ↦ (
          Err (pairs.ZoneCounts (count_at span.degrees Even p) (count_at span.degrees Odd q)),
          (p, q, pair, at, record { in_range = inside; even = refl; odd = refl; differ = differ }),
        )
        | inl same ↦
            let found = some_point span e codes lat lon p q t pair at inside same in
            (Ok found.0, found.1)
      ]
    ]

pub some_air_pair_answer : SomeAirPairAnswer
some_air_pair_answer codes =
    let found = some_pair_answer air refl codes (whole 0) (whole 0) (omega arith) (omega arith) in
    (found.0, air_answer codes (whole 0) found.0 found.1)
