-- Slow positions round to close points.
use Rattle.std.proofs.Common.{◌≡◌, ℕ, ◌*◌, ◌<◌, ◌≤◌, ◌⊎◌, ⊎_elim, ℤ, pos, neg_ℤ, ◌+ℤ◌, ◌-ℤ◌, ◌*ℤ◌, ◌≤ℤ◌, ◌<ℤ◌, arith}
use Rattle.std.proofs.Common.{mul-le-mul_left}
use Rattle.std.proofs.lemmas.Int.{ints}
use Rattle.sq_angle.specs.Angle.{degrees as degrees_of}
use Rattle.sq_angle.specs.Fraction.{Fraction}
use Rattle.sq_angle.specs.Nearest.{IsNearest}
use Rattle.sq_angle.specs.Position.{lat_of, lon_of}
use Rattle.sq_angle.specs.Scale.{scales, scale-neg, scale-le, lt_of_scale}
use Rattle.sq_angle.proofs.Congruence.{congruent_sym, congruent_factor}
use Rattle.sq_zones.specs.declared.parity.Parity.TheVariants.{Even, Odd}
use Rattle.sq_cpr.specs.Span.{Span, FitsCircle}
use Rattle.sq_cpr.specs.Grid.{codes_of_zone, step}
use Rattle.sq_cpr.specs.Close.{count_at, zones_of}
use Rattle.sq_cpr.specs.Multiplied.{LiesClose}
use Rattle.sq_cpr.specs.DecodeLaws.{SlowIsTame}
use Rattle.sq_cpr.proofs.Distances.Agree.{close_from_lies}
use Rattle.sq_cpr.proofs.Distances.CloseLaw.{one_zone_is_close}
use Rattle.sq_cpr.proofs.Decoding.Decoded.{some_zones_of_point}
use Rattle.sq_cpr.proofs.Grids.NearestPoints.{above_index, nearest_parts, slow_parts, between_angles, around_is}
use Rattle.sq_cpr.proofs.Grids.NearestPoints.{straight_is, one_more}
use Rattle.sq_cpr.proofs.Decoding.PairLaw.{some_count}
use Rattle.sq_cpr.proofs.Grids.Spans.{span_limits}
use Rattle.sq_cpr.proofs.Decoding.ZonePairs.{close_turned_even, close_turned_odd}

-- An equation, in one unit, of the distances of the indices from the angles and both differences, of angles and of
-- indices.
pub balance : (w r n m xd yd : ℕ) (a b xn yn turns : ℤ) →
    pos (w * xd * yd) *ℤ (pos 2 *ℤ (pos m *ℤ a -ℤ pos n *ℤ b +ℤ pos (n * m * codes_of_zone) *ℤ (pos r *ℤ turns)))
    +ℤ pos (m * yd) *ℤ (pos 2 *ℤ (pos (n * codes_of_zone) *ℤ xn -ℤ pos (w * xd) *ℤ a))
    ≡ pos (2 * n * m * codes_of_zone) *ℤ (pos yd *ℤ xn -ℤ pos xd *ℤ yn +ℤ pos (w * r * xd * yd) *ℤ turns)
    +ℤ pos (n * xd) *ℤ (pos 2 *ℤ (pos (m * codes_of_zone) *ℤ yn -ℤ pos (w * yd) *ℤ b))
balance w r n m xd yd a b xn yn turns = simp scales (omega (arith, ints))

-- bounds on the difference of the indices from the balance
bounded : (w n m xd yd : ℕ) (twice fx fy q : ℤ) → m ≤ n →
    pos (w * xd * yd) *ℤ twice +ℤ pos (m * yd) *ℤ fx ≡ q +ℤ pos (n * xd) *ℤ fy →
    neg_ℤ (pos (w * xd)) ≤ℤ fx → fx ≤ℤ pos (w * xd) → neg_ℤ (pos (w * yd)) ≤ℤ fy → fy ≤ℤ pos (w * yd) →
    neg_ℤ (pos (w * codes_of_zone * (xd * yd)) -ℤ pos (2 * n * w * (xd * yd))) <ℤ q
    → q <ℤ (pos (w * codes_of_zone * (xd * yd)) -ℤ pos (2 * n * w * (xd * yd))) →
    ((pos (w * xd * yd) *ℤ neg_ℤ (pos codes_of_zone)) <ℤ (pos (w * xd * yd) *ℤ twice))
    × ((pos (w * xd * yd) *ℤ twice) <ℤ (pos (w * xd * yd) *ℤ pos codes_of_zone))
bounded w n m xd yd twice fx fy q smaller e fx_low fx_high fy_low fy_high q_low q_high =
    let a = scale-le (m * yd) (neg_ℤ (pos (w * xd))) fx fx_low in
    let b = scale-le (m * yd) fx (pos (w * xd)) fx_high in
    let c = scale-le (n * xd) (neg_ℤ (pos (w * yd))) fy fy_low in
    let d = scale-le (n * xd) fy (pos (w * yd)) fy_high in
    let k : (w * xd * yd) * m ≤ (w * xd * yd) * n = mul-le-mul_left (w * xd * yd) smaller in (
      omega (
        arith,
        ints,
        scale-neg (m * yd) (pos (w * xd)),
        scale-neg (n * xd) (pos (w * yd)),
        scale-neg (w * xd * yd) (pos codes_of_zone),
      ),
      omega (arith, ints, scale-neg (m * yd) (pos (w * xd)), scale-neg (n * xd) (pos (w * yd))),
    )

lt_le : {a b : ℤ} → a <ℤ b → a ≤ℤ b
lt_le {a} {b} h = omega (arith, ints)

-- indices nearest to slow angles are close
pub slow_is_close : (w r n m : ℕ) (x y : Fraction) (a b turns : ℤ) → w * r ≡ 360 → m ≤ n → IsNearest x (step w n) a
    → IsNearest y (step w m) b →
    neg_ℤ (pos (w * codes_of_zone * (x.den * y.den)) -ℤ pos (2 * n * w * (x.den * y.den))) <ℤ
    (pos (2 * n * m * codes_of_zone) *ℤ between_angles x y turns) →
    (pos (2 * n * m * codes_of_zone) *ℤ between_angles x y turns) <ℤ
    (pos (w * codes_of_zone * (x.den * y.den)) -ℤ pos (2 * n * w * (x.den * y.den))) →
    LiesClose n m a b
slow_is_close w r n m x y a b turns full smaller near_a near_b low high =
    let e : pos (w * x.den * y.den) *ℤ
    (pos 2 *ℤ (pos m *ℤ a -ℤ pos n *ℤ b +ℤ pos (n * m * codes_of_zone) *ℤ (pos r *ℤ turns))) +ℤ pos
    (m * y.den) *ℤ above_index w n x a
    ≡ pos (2 * n * m * codes_of_zone) *ℤ between_angles x y turns +ℤ pos (n * x.den) *ℤ above_index w m y b =
    rw full at (balance w r n m x.den y.den a b x.num y.num turns) in
    let f = nearest_parts w n x a near_a in
    let g = nearest_parts w m y b near_b in
    let both = bounded w n m x.den y.den
    (pos 2 *ℤ (pos m *ℤ a -ℤ pos n *ℤ b +ℤ pos (n * m * codes_of_zone) *ℤ (pos r *ℤ turns)))
    (above_index w n x a) (above_index w m y b)
    (pos (2 * n * m * codes_of_zone) *ℤ between_angles x y turns) smaller e f.0 f.1 g.0 g.1 low high in
    (pos r *ℤ turns, (lt_le (lt_of_scale (w * x.den * y.den) _ _ both.0), lt_of_scale (w * x.den * y.den) _ _ both.1))

fewer : (count : ℕ) → zones_of Odd count ≤ zones_of Even count
fewer count = omega arith

one_or_more : (count : ℕ) → 0 < count → (count ≡ 1) ⊎ (2 ≤ count)
one_or_more count h = grind arith

pub slow_is_tame : (span : Span) → FitsCircle span → SlowIsTame span
slow_is_tame span full x y a b a_rounds b_rounds even odd slow =
    let x_lat = degrees_of (lat_of x) in
    let y_lat = degrees_of (lat_of y) in
    let x_lon = degrees_of (lon_of x) in
    let y_lon = degrees_of (lon_of y) in
    let some : 0 < span.degrees = (span_limits span full).0 in
    let lat = rw (straight_is x_lat y_lat) at (slow_parts span.degrees 60 59 _ slow.latitudes) in
    record {
      even = even;
      odd = odd;
      latitudes = close_from_lies span.degrees 60 59 a.lat_index b.lat_index some (omega arith) (omega arith)
          (slow_is_close span.degrees span.repeats 60 59 x_lat y_lat a.lat_index b.lat_index (pos 0) full (omega arith)
          (rw even at a_rounds.north_south) (rw odd at b_rounds.north_south) lat.0 lat.1);
      longitudes = λ counts.
          let n : a.zones ≡ zones_of Even (count_at span.degrees Even a.lat_index) =
          rw even at a_rounds.of_grid.zones in
          let m : b.zones ≡ zones_of Odd (count_at span.degrees Even a.lat_index) =
          rw (odd, ← counts) at b_rounds.of_grid.zones in
          ⊎_elim
          (λ one. let n1 : a.zones ≡ 1 = rw one at n in let m1 : b.zones
          ≡ 1 = rw one at m in rw (n1, m1) (one_zone_is_close span full (pos a.lon_index) (pos b.lon_index)))
          (λ more.
          let apart = slow.longitudes counts more in
          let s = a_rounds.east_west in
          let t = b_rounds.east_west in
          let smaller : b.zones ≤ a.zones = rw (n, m) (fewer (count_at span.degrees Even a.lat_index)) in
          let lon = rw (around_is x_lon y_lon apart.0, one_more (x_lon.den * y_lon.den)) at
          (slow_parts span.degrees a.zones b.zones _ apart.1) in
          let turned = slow_is_close span.degrees span.repeats a.zones b.zones x_lon y_lon s.0 t.0 apart.0 full smaller
          s.1 t.1 lon.0 lon.1 in
          close_from_lies span.degrees a.zones b.zones (pos a.lon_index) (pos b.lon_index) some
          (some_zones_of_point span a a_rounds.of_grid) (some_zones_of_point span b b_rounds.of_grid)
          (close_turned_even a.zones b.zones s.0 (pos b.lon_index) (pos a.lon_index)
          (congruent_sym (congruent_factor (a.zones * codes_of_zone) span.repeats s.2))
          (close_turned_odd a.zones b.zones s.0 t.0 (pos b.lon_index)
          (congruent_sym (congruent_factor (b.zones * codes_of_zone) span.repeats t.2)) turned)))
          (one_or_more (count_at span.degrees Even a.lat_index) (some_count span.degrees Even a.lat_index));
    }
