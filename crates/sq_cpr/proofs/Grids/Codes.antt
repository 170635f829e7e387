-- Zones, points and their codes.
use Rattle.std.proofs.Common.{◌≡◌, ℕ, ◌*◌, ◌/◌, ◌%◌, ◌<◌, ℤ, pos, neg_ℤ, ◌+ℤ◌, ◌*ℤ◌, ◌≤ℤ◌, ◌<ℤ◌, ap, ap₂, ◌∙◌, sym}
use Rattle.std.proofs.Common.{subst, arith, refl}
use Rattle.std.proofs.lemmas.Int.{ints}
use Rattle.std.specs.Int.{int_div_euclid, int_rem_euclid}
use Rattle.sq_angle.specs.Fraction.{Fraction}
use Rattle.sq_angle.specs.Nearest.{IsNearest}
use Rattle.sq_angle.proofs.Congruence.{congruent_sym, congruent_trans, congruent_mod, residue_of, same_below}
use Rattle.sq_angle.proofs.Floors.{div_euclid-le, div_euclid-lt, remainder_below, block_once, same_in_block}
use Rattle.sq_zones.specs.declared.parity.Parity.{Parity}
use Rattle.sq_cpr.specs.Code.{CodeNumbers}
use Rattle.sq_cpr.specs.Span.{Span, FitsCircle}
use Rattle.sq_cpr.specs.Grid.{Point, HasCode, step, lat_zones, code_of}
use Rattle.sq_cpr.specs.Rounds.{RoundsTo}
use Rattle.sq_cpr.specs.Zones.{ZonePair, IsInZones}
use Rattle.sq_cpr.specs.Laws.{OnePairOfZones, SameZones, OneCode}
use Rattle.sq_cpr.proofs.Grids.Points.{point_same, zones_same, rounds_once, rounds_somewhere}
use Rattle.sq_cpr.proofs.Grids.ZoneIndices.{zone_from, zone_below, zone_of_index, lon_zone_index, lon_index_zone}

-- the indices of a point lie in these zones
record AreZonesOf (zones : ZonePair) (p : Point) : Type 0 where
  lat_from : (pos 131072 *ℤ zones.lat) ≤ℤ p.lat_index
  lat_below : p.lat_index <ℤ (pos 131072 *ℤ zones.lat +ℤ pos 131072)
  lon_from : (pos 131072 *ℤ pos zones.lon) ≤ℤ pos p.lon_index
  lon_below : pos p.lon_index <ℤ (pos 131072 *ℤ pos zones.lon +ℤ pos 131072)

zones_of : (span : Span) → FitsCircle span
    → (parity : Parity) (lat lon : Fraction) (zones : ZonePair) (h : IsInZones span parity lat lon zones)
    → AreZonesOf zones h.point
zones_of span e parity lat lon zones h =
    let p = h.point in
    let d = lat_zones parity * 131072 in
    let north : IsNearest lat (step span.degrees (lat_zones parity)) p.lat_index =
    subst (λ (x : Parity). IsNearest lat (step span.degrees (lat_zones x)) p.lat_index) h.of_parity
    h.rounds.north_south in
    let (k, east, around) = h.rounds.east_west in
    let (turns, zone) = h.east_west in
    let lon_index = lon_zone_index lon span.degrees span.repeats p.zones p.lon_index zones.lon k turns e east around
    h.rounds.of_grid.east_west h.of_circle zone in
    record {
      lat_from = zone_from lat span.degrees d p.lat_index zones.lat north h.north_south;
      lat_below = zone_below lat span.degrees d p.lat_index zones.lat north h.north_south;
      lon_from = lon_index.0;
      lon_below = lon_index.1;
    }

-- the indices of a point to which a position rounds lie in the zones of the position
zones_of_point : (span : Span) → FitsCircle span → (parity : Parity) (lat lon : Fraction) (zones : ZonePair) (p : Point)
    → IsInZones span parity lat lon zones → p.parity ≡ parity → RoundsTo span lat lon p → AreZonesOf zones p
zones_of_point span e parity lat lon zones p h same rounds =
    subst (λ (x : Point). AreZonesOf zones x)
    (rounds_once span lat lon h.point p (h.of_parity ∙ sym same) h.rounds rounds)
    (zones_of span e parity lat lon zones h)

-- the indices of a point lie in at most one pair of zones
zones_once : (y z : ZonePair) (p : Point) → AreZonesOf y p → AreZonesOf z p → y ≡ z
zones_once y z p a b =
    let lat = block_once y.lat z.lat p.lat_index 131072 a.lat_from a.lat_below b.lat_from b.lat_below in
    let lon = block_once (pos y.lon) (pos z.lon)
    (pos p.lon_index) 131072 a.lon_from a.lon_below b.lon_from b.lon_below in
    let lon' : y.lon ≡ z.lon = omega (arith, ints) in
    ap₂ (λ (m : ℤ) (n : ℕ). record { lat = m; lon = n }) lat lon'

pub one_pair_of_zones : (span : Span) → FitsCircle span → OnePairOfZones span
one_pair_of_zones span e parity lat lon some_lat some_lon is =
    let (p, same, rounds) = rounds_somewhere span e parity lat lon some_lat some_lon is in
    let (k, east, around) = rounds.east_west in
    let j = int_div_euclid p.lat_index (pos 131072) in
    let l = p.lon_index / 131072 in
    let north : IsNearest lat (step span.degrees (lat_zones parity)) p.lat_index =
    subst (λ (x : Parity). IsNearest lat (step span.degrees (lat_zones x)) p.lat_index) same rounds.north_south in
    let on_circle = rounds.of_grid.east_west in
    let few : l < p.zones * span.repeats = omega arith in
    let here : IsInZones span parity lat lon (record { lat = j; lon = l }) = record {
      point = p;
      of_parity = same;
      rounds = rounds;
      north_south = zone_of_index lat span.degrees (lat_zones parity * 131072) p.lat_index j north
          (div_euclid-le p.lat_index 131072 (omega arith)) (div_euclid-lt p.lat_index 131072 (omega arith));
      of_circle = few;
      east_west = (
        neg_ℤ around.times,
        lon_index_zone lon span.degrees span.repeats p.zones p.lon_index l k e east around (omega (arith, ints))
            (omega (arith, ints)),
      );
    } in (
      record { lat = j; lon = l },
      here,
      λ (zones : ZonePair) (h : IsInZones span parity lat lon zones).
          zones_once zones (record { lat = j; lon = l }) p (zones_of_point span e parity lat lon zones p h same rounds)
          (zones_of span e parity lat lon (record { lat = j; lon = l }) here),
    )

pub same_zones : (span : Span) → FitsCircle span → SameZones span
same_zones span e parity lat lon lat' lon' zones p q h k same_p same_q rounds_p rounds_q =
    (there, λ (i : p ≡ q). ap code_of i)
  where
    there : code_of p ≡ code_of q → p ≡ q
    there c =
        let a = zones_of_point span e parity lat lon zones p h same_p rounds_p in
        let b = zones_of_point span e parity lat' lon' zones q k same_q rounds_q in
        let same = same_p ∙ sym same_q in
        let lat_same = same_in_block zones.lat p.lat_index q.lat_index 131072
        (omega arith) a.lat_from a.lat_below b.lat_from b.lat_below (ap (λ (x : CodeNumbers). x.lat) c) in
        let index_same = same_in_block (pos zones.lon) (pos p.lon_index) (pos q.lon_index) 131072
        (omega arith) a.lon_from a.lon_below b.lon_from b.lon_below (ap (λ (x : CodeNumbers). x.lon) c) in
        let lon_same : p.lon_index ≡ q.lon_index = omega (arith, ints) in
        point_same p q same lat_same (zones_same span p q rounds_p.of_grid rounds_q.of_grid same lat_same) lon_same

-- a point has its code
pub has_own_code : (p : Point) → HasCode p (code_of p)
has_own_code p = record {
  latitude = congruent_sym (residue_of 131072 p.lat_index (int_rem_euclid p.lat_index (pos 131072)) (omega arith) refl);
  longitude = congruent_mod p.lon_index 131072 (omega arith);
}

-- a point has no other code of 17 bits
code_once : (p : Point) (code : CodeNumbers) → HasCode p code → code.lat < 131072 → code.lon < 131072 → code_of p ≡ code
code_once p code h low_lat low_lon =
    let own = has_own_code p in
    let lat : (code_of p).lat ≡ code.lat = same_below 131072 (code_of p).lat code.lat
    (remainder_below p.lat_index 131072 (omega arith)) low_lat
    (congruent_trans (congruent_sym own.latitude) h.latitude) in
    let small : p.lon_index % 131072 < 131072 = omega arith in
    let lon : (code_of p).lon ≡ code.lon = same_below 131072 (code_of p).lon code.lon small low_lon
    (congruent_trans (congruent_sym own.longitude) h.longitude) in
    ap₂ (λ (m n : ℕ). record { lat = m; lon = n }) lat lon

pub one_code : OneCode
one_code p code = (
  λ (h : HasCode p code × (code.lat < 131072) × (code.lon < 131072)). code_once p code h.0 h.1 h.2,
  λ (e : code_of p ≡ code). subst (λ (c : CodeNumbers). HasCode p c × (c.lat < 131072) × (c.lon < 131072)) e
      (has_own_code p, remainder_below p.lat_index 131072 (omega arith), omega arith),
)
