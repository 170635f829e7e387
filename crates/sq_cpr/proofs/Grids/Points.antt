-- The point to which a position rounds.
use Rattle.std.proofs.Common.{◌≡◌, ℕ, ◌*◌, ◌<◌, ◌≤◌, ℤ, pos, neg_ℤ, ◌+ℤ◌, ◌-ℤ◌, ◌*ℤ◌, refl, ap, ap₂, ◌∙◌, sym, subst}
use Rattle.std.proofs.Common.{arith, Bool, true, false, nat_lt, if◌then◌else◌}
use Rattle.std.proofs.Math.IntN.{negsuc}
use Rattle.std.proofs.lemmas.Int.{ints}
use Rattle.sq_angle.specs.Fraction.{Fraction}
use Rattle.sq_angle.specs.Bounds.{IsPosition}
use Rattle.sq_angle.specs.Nearest.{IsNearest}
use Rattle.sq_angle.specs.Whole.{IsCongruent}
use Rattle.sq_angle.specs.Scale.{scale-sum, scale-neg}
use Rattle.sq_angle.proofs.Congruence.{congruent_sym, congruent_trans, congruent_rem, same_below}
use Rattle.sq_angle.proofs.Floors.{rem_is_pos}
use Rattle.sq_angle.proofs.Rounding.{nearest_once, nearest_itself, one_nearest}
use Rattle.sq_zones.specs.Zones.{lon_zones_at}
use Rattle.sq_zones.specs.declared.parity.Parity.{Parity}
use Rattle.sq_zones.proofs.ZoneBounds.{lon_zones_at-least}
use Rattle.sq_cpr.specs.Span.{Span, FitsCircle}
use Rattle.sq_cpr.specs.Grid.{Point, IsGridPoint, step, circle, lat_zones, grid_latitude, latitude}
use Rattle.sq_cpr.specs.Rounds.{RoundsTo}
use Rattle.sq_cpr.specs.Laws.{RoundsToOne, RoundsToItself, SamePoints}
use Rattle.sq_cpr.proofs.Grids.Spans.{span_bounds, circle_positive, span_limits}
use Rattle.sq_cpr.proofs.Grids.SpanBounds.{nearest_within_90, lat_zones_at-least}

-- the point of these parts
abbrev made : Parity → ℤ → ℕ → ℕ → Point
made parity lat_index zones lon_index =
    record { parity = parity; lat_index = lat_index; zones = zones; lon_index = lon_index }

-- points of the same parts are equal
pub point_same : (p q : Point) → p.parity ≡ q.parity → p.lat_index ≡ q.lat_index → p.zones ≡ q.zones
    → p.lon_index ≡ q.lon_index → p ≡ q
point_same p q a b c d =
    ap (λ x. made x p.lat_index p.zones p.lon_index) a ∙ ap (λ x. made q.parity x p.zones p.lon_index) b
    ∙ ap (λ x. made q.parity q.lat_index x p.lon_index) c ∙ ap (λ x. made q.parity q.lat_index q.zones x) d

-- the zones of a grid point follow from its parity and its latitude index
pub zones_same : (span : Span) (p q : Point) → IsGridPoint span p → IsGridPoint span q → p.parity ≡ q.parity
    → p.lat_index ≡ q.lat_index → p.zones ≡ q.zones
zones_same span p q g h e f =
    g.zones ∙ ap₂ (λ (parity : Parity) (a : ℤ). lon_zones_at parity (grid_latitude span.degrees parity a)) e f
    ∙ sym h.zones

pub same_points : (span : Span) → SamePoints span
same_points span p q g h = (
  λ (e : p ≡ q). (ap (λ (x : Point). x.parity) e, ap (λ (x : Point). x.lat_index) e, ap (λ (x : Point). x.lon_index) e),
  λ (e : (p.parity ≡ q.parity) × (p.lat_index ≡ q.lat_index) × (p.lon_index ≡ q.lon_index)). point_same p q e.0 e.1
      (zones_same span p q g h e.0 e.1) e.2,
)

-- a position rounds to at most one point of a parity's grid
pub rounds_once : (span : Span) (lat lon : Fraction) (p q : Point) → p.parity ≡ q.parity → RoundsTo span lat lon p
    → RoundsTo span lat lon q → p ≡ q
rounds_once span lat lon p q same a b =
    let z = lat_zones q.parity in
    let a' : IsNearest lat (step span.degrees z) p.lat_index =
    subst (λ parity. IsNearest lat (step span.degrees (lat_zones parity)) p.lat_index) same a.north_south in
    let lat_same = nearest_once lat span.degrees (z * 131072) p.lat_index q.lat_index a' b.north_south in
    let zone_same = zones_same span p q a.of_grid b.of_grid same lat_same in
    let east : IsNearest lon (step span.degrees q.zones) a.east_west.0 =
    subst (λ n. IsNearest lon (step span.degrees n) a.east_west.0) zone_same a.east_west.1 in
    let index_same = nearest_once lon span.degrees (q.zones * 131072) a.east_west.0 b.east_west.0 east b.east_west.1 in
    let within : p.lon_index < circle q.zones span.repeats =
    subst (λ n. p.lon_index < circle n span.repeats) zone_same a.of_grid.east_west in
    let congruent : IsCongruent (circle q.zones span.repeats) b.east_west.0 (pos p.lon_index)
    = subst (λ k. IsCongruent (circle q.zones span.repeats) k (pos p.lon_index)) index_same
    (subst (λ n. IsCongruent (circle n span.repeats) a.east_west.0 (pos p.lon_index)) zone_same a.east_west.2) in
    let lon_same = same_below (circle q.zones span.repeats) p.lon_index q.lon_index within b.of_grid.east_west
    (congruent_trans (congruent_sym congruent) b.east_west.2) in
    point_same p q same lat_same zone_same lon_same

-- a position rounds to a point: that of the nearest indices
pub rounds_somewhere : (span : Span) → FitsCircle span → (parity : Parity) (lat lon : Fraction) → 0 < lat.den
    → 0 < lon.den
    → IsPosition lat lon
    → (point : Point) × (point.parity ≡ parity) × RoundsTo span lat lon point
rounds_somewhere span e parity lat lon some_lat some_lon is =
    let wide = (span_limits span e).0 in
    let north = one_nearest lat span.degrees (lat_zones parity * 131072) some_lat wide in
    let a = north.0 in
    let zones = lon_zones_at parity (grid_latitude span.degrees parity a) in
    let columns = lon_zones_at-least parity (grid_latitude span.degrees parity a) in
    let east = one_nearest lon span.degrees (zones * 131072) some_lon wide in
    let left = rem_is_pos east.0 (circle zones span.repeats)
    (circle_positive span.degrees span.repeats zones e columns) in
    let congruent : IsCongruent (circle zones span.repeats) east.0 (pos left.0) =
    rw left.1 at (congruent_rem east.0 (circle zones span.repeats)
    (circle_positive span.degrees span.repeats zones e columns)) in
    let of_grid : IsGridPoint span (made parity a zones left.0)
    = record {
      north_south = nearest_within_90 lat span.degrees span.repeats (lat_zones parity) a e some_lat is.latitude north.1;
      zones = refl;
      east_west = left.2;
    } in (
      made parity a zones left.0,
      refl,
      record { of_grid = of_grid; north_south = north.1; east_west = (east.0, east.1, congruent) },
    )

pub rounds_to_one : (span : Span) → FitsCircle span → RoundsToOne span
rounds_to_one span e parity lat lon some_lat some_lon is =
    let one = rounds_somewhere span e parity lat lon some_lat some_lon is in (
      one.0,
      (one.1, one.2),
      λ (q : Point)
          (h : (q.parity ≡ parity) × RoundsTo span lat lon q). rounds_once span lat lon q one.0 (h.0 ∙ sym one.1) h.1
          one.2,
    )

-- a longitude east of the prime meridian is nearest to its own index, and one west of it to that index less a circle
own_longitude : (w r z b : ℕ) (east : Bool) → w * r ≡ 360 → 1 ≤ z →
    let d = z * 131072 in
    let x : Fraction = record { num = if east then pos (w * b) else (pos (w * b) -ℤ pos (360 * d)); den = d } in
    (index : ℤ) × IsNearest x (step w z) index × IsCongruent (circle z r) index (pos b)
own_longitude w r z b true e p = (
  pos b,
  nearest_itself (pos b) w (z * 131072) (span_bounds w r e).0 (omega arith),
  record { times = pos 0; apart = omega (arith, ints) },
)
own_longitude w r z b false e p =
    let C = z * 131072 * r in
    let west = pos b +ℤ neg_ℤ (pos C) in
    let f : (w * r) * (z * 131072) ≡ 360 * (z * 131072) = ap (λ n. n * (z * 131072)) e in
    let g = scale-sum w (pos b) (neg_ℤ (pos C)) in
    let h = scale-neg w (pos C) in
    let num_is : pos w *ℤ west ≡ pos (w * b) -ℤ pos (360 * (z * 131072)) = omega (arith, ints) in (
      west,
      subst (λ num. IsNearest (record { num = num; den = z * 131072 }) (step w z) west) num_is
          (nearest_itself west w (z * 131072) (span_bounds w r e).0 (omega arith)),
      record { times = negsuc 0; apart = omega (arith, ints) },
    )

pub rounds_to_itself : (span : Span) → FitsCircle span → RoundsToItself span
rounds_to_itself span e p g =
    let wide = (span_limits span e).0 in
    let rows = lat_zones_at-least p.parity in
    let columns : 1 ≤ p.zones = subst (λ n. 1 ≤ n) (sym g.zones) (lon_zones_at-least p.parity (latitude span p)) in
    record {
      of_grid = g;
      north_south = nearest_itself p.lat_index span.degrees (lat_zones p.parity * 131072) wide (omega arith);
      east_west = own_longitude span.degrees span.repeats p.zones p.lon_index
          (nat_lt (span.degrees * p.lon_index) (180 * (p.zones * 131072))) e columns;
    }
