-- Positions that are slow for following round to points that are strictly near one another.
use Rattle.std.proofs.Common.{◌≡◌, ◌∙◌, ℕ, ◌*◌, ◌<◌, ◌≤◌, max, min, Bool, true, false, nat_lt, if◌then◌else◌, ℤ, pos}
use Rattle.std.proofs.Common.{neg_ℤ, ◌+ℤ◌, ◌-ℤ◌, ◌*ℤ◌, ◌≤ℤ◌, ◌<ℤ◌, ap, refl, arith, mul-le-mul_left, mul-le-mul_right}
use Rattle.std.proofs.lemmas.Int.{ints}
use Rattle.sq_angle.specs.Angle.{degrees as degrees_of}
use Rattle.sq_angle.specs.Fraction.{Fraction}
use Rattle.sq_angle.specs.Nearest.{IsNearest}
use Rattle.sq_angle.specs.Position.{lat_of, lon_of}
use Rattle.sq_angle.specs.Scale.{scales, scale-neg, scale-le, scale-lt, lt_of_scale}
use Rattle.sq_angle.specs.Whole.{IsCongruent}
use Rattle.sq_angle.proofs.Congruence.{congruent_trans}
use Rattle.sq_angle.proofs.Sizes.{mul_pos}
use Rattle.sq_zones.specs.declared.parity.Parity.{Parity}
use Rattle.sq_zones.specs.declared.parity.Parity.TheVariants.{Even, Odd}
use Rattle.sq_cpr.specs.Span.{Span, FitsCircle}
use Rattle.sq_cpr.specs.Grid.{codes_of_zone, circle, step, lat_zones, grid_longitude}
use Rattle.sq_cpr.specs.Near.{IsStrictlyNear, half_zone, angle_at}
use Rattle.sq_cpr.specs.DecodeLaws.{FollowingIsNear}
use Rattle.sq_cpr.proofs.Distances.Agree.{strictly_from_within}
use Rattle.sq_cpr.proofs.Decoding.Decoded.{some_lat_zones, some_zones_of_point}
use Rattle.sq_cpr.proofs.Grids.NearestPoints.{above_index, nearest_parts, follow_parts, between_angles, around_is}
use Rattle.sq_cpr.proofs.Grids.NearestPoints.{straight_is, one_more}
use Rattle.sq_cpr.proofs.Grids.Spans.{span_limits}

-- twice the difference of the index a of i zones and the index b of j zones, in one unit
abbrev twice : ℕ → ℕ → ℕ → ℤ → ℤ → ℤ → ℤ
twice i j r a b turns = pos 2 *ℤ (pos j *ℤ a -ℤ pos i *ℤ b +ℤ pos (i * j * codes_of_zone) *ℤ (pos r *ℤ turns))

-- an equation, in one unit, of the distances of the indices from the angles and both differences, of angles and of
-- indices
balance : (w r n m i j xd yd : ℕ) (a b xn yn turns : ℤ) →
    pos (n * m * (w * xd * yd)) *ℤ twice i j r a b turns +ℤ pos (n * m * (j * yd)) *ℤ
    (pos 2 *ℤ (pos (i * codes_of_zone) *ℤ xn -ℤ pos (w * xd) *ℤ a))
    ≡ pos (i * j * (2 * n * m * codes_of_zone)) *ℤ (pos yd *ℤ xn -ℤ pos xd *ℤ yn +ℤ pos (w * r * xd * yd) *ℤ turns)
    +ℤ pos (n * m * (i * xd)) *ℤ (pos 2 *ℤ (pos (j * codes_of_zone) *ℤ yn -ℤ pos (w * yd) *ℤ b))
balance w r n m i j xd yd a b xn yn turns = simp scales (omega (arith, ints))

-- bounds on the difference of the indices from the balance, if i and j are at least m
bounded : (w n m i j xd yd : ℕ) (t fx fy d : ℤ) → m ≤ i → m ≤ j → 0 < i * j →
    pos (n * m * (w * xd * yd)) *ℤ t +ℤ pos (n * m * (j * yd)) *ℤ fx
    ≡ pos (i * j * (2 * n * m * codes_of_zone)) *ℤ d +ℤ pos (n * m * (i * xd)) *ℤ fy →
    neg_ℤ (pos (w * xd)) ≤ℤ fx → fx ≤ℤ pos (w * xd) → neg_ℤ (pos (w * yd)) ≤ℤ fy → fy ≤ℤ pos (w * yd) →
    neg_ℤ (pos (w * (m * codes_of_zone) * (xd * yd)) -ℤ pos (2 * n * w * (xd * yd))) <ℤ
    (pos (2 * n * m * codes_of_zone) *ℤ d) →
    (pos (2 * n * m * codes_of_zone) *ℤ d) <ℤ
    (pos (w * (m * codes_of_zone) * (xd * yd)) -ℤ pos (2 * n * w * (xd * yd))) →
    ((pos (m * (w * xd * yd)) *ℤ neg_ℤ (pos (i * j * codes_of_zone))) <ℤ (pos (m * (w * xd * yd)) *ℤ (pos n *ℤ t)))
    × ((pos (m * (w * xd * yd)) *ℤ (pos n *ℤ t)) <ℤ (pos (m * (w * xd * yd)) *ℤ pos (i * j * codes_of_zone)))
bounded w n m i j xd yd t fx fy d less_i less_j some e fx_low fx_high fy_low fy_high d_low d_high =
    let a : (pos (n * m * (j * yd)) *ℤ neg_ℤ (pos (w * xd))) ≤ℤ (pos (n * m * (j * yd)) *ℤ fx) =
    scale-le (n * m * (j * yd)) (neg_ℤ (pos (w * xd))) fx fx_low in
    let b : (pos (n * m * (j * yd)) *ℤ fx) ≤ℤ (pos (n * m * (j * yd)) *ℤ pos (w * xd)) =
    scale-le (n * m * (j * yd)) fx (pos (w * xd)) fx_high in
    let c : (pos (n * m * (i * xd)) *ℤ neg_ℤ (pos (w * yd))) ≤ℤ (pos (n * m * (i * xd)) *ℤ fy) =
    scale-le (n * m * (i * xd)) (neg_ℤ (pos (w * yd))) fy fy_low in
    let f : (pos (n * m * (i * xd)) *ℤ fy) ≤ℤ (pos (n * m * (i * xd)) *ℤ pos (w * yd)) =
    scale-le (n * m * (i * xd)) fy (pos (w * yd)) fy_high in
    let low = simp scales at (scale-lt (i * j) _ _ some d_low) in
    let high = simp scales at (scale-lt (i * j) _ _ some d_high) in
    let k : (n * i * (w * xd * yd)) * m ≤ (n * i * (w * xd * yd)) * j =
    mul-le-mul_left (n * i * (w * xd * yd)) less_j in
    let l : (n * j * (w * xd * yd)) * m ≤ (n * j * (w * xd * yd)) * i =
    mul-le-mul_left (n * j * (w * xd * yd)) less_i in (
      simp scales (omega (
        arith,
        ints,
        scale-neg (n * m * (j * yd)) (pos (w * xd)),
        scale-neg (n * m * (i * xd)) (pos (w * yd)),
      )),
      simp scales (omega (
        arith,
        ints,
        scale-neg (n * m * (j * yd)) (pos (w * xd)),
        scale-neg (n * m * (i * xd)) (pos (w * yd)),
      )),
    )

-- the difference of the indices is below half a zone of either grid
pub record AreBetween (i j : ℕ) (t : ℤ) : Type 0 where
  pub first_low : neg_ℤ (pos (j * codes_of_zone)) <ℤ t
  pub first_high : t <ℤ pos (j * codes_of_zone)
  pub second_low : neg_ℤ (pos (i * codes_of_zone)) <ℤ t
  pub second_high : t <ℤ pos (i * codes_of_zone)

-- both numbers of zones are from m to n
record AreZones (n m i j : ℕ) : Type 0 where
  first_least : m ≤ i
  second_least : m ≤ j
  first_most : i ≤ n
  second_most : j ≤ n
  first_some : 0 < i
  second_some : 0 < j

between : (w r n m i j : ℕ) (x y : Fraction) (a b turns : ℤ) → w * r ≡ 360 → AreZones n m i j
    → IsNearest x (step w i) a → IsNearest y (step w j) b →
    neg_ℤ (pos (w * (m * codes_of_zone) * (x.den * y.den)) -ℤ pos (2 * n * w * (x.den * y.den))) <ℤ
    (pos (2 * n * m * codes_of_zone) *ℤ between_angles x y turns) →
    (pos (2 * n * m * codes_of_zone) *ℤ between_angles x y turns) <ℤ
    (pos (w * (m * codes_of_zone) * (x.den * y.den)) -ℤ pos (2 * n * w * (x.den * y.den))) →
    AreBetween i j (twice i j r a b turns)
between w r n m i j x y a b turns full z near_a near_b low high =
    let e : pos (n * m * (w * x.den * y.den)) *ℤ twice i j r a b turns +ℤ pos
    (n * m * (j * y.den)) *ℤ above_index w i x a
    ≡ pos (i * j * (2 * n * m * codes_of_zone)) *ℤ between_angles x y turns +ℤ pos
    (n * m * (i * x.den)) *ℤ above_index w j y b =
    rw full at (balance w r n m i j x.den y.den a b x.num y.num turns) in
    let f = nearest_parts w i x a near_a in
    let g = nearest_parts w j y b near_b in
    let t : ℤ = twice i j r a b turns in
    let both = bounded w n m i j x.den y.den t (above_index w i x a) (above_index w j y b)
    (between_angles x y turns) z.first_least z.second_least
    (mul_pos i j z.first_some z.second_some) e f.0 f.1 g.0 g.1 low high in
    let n_low : neg_ℤ (pos (i * j * codes_of_zone)) <ℤ (pos n *ℤ t) =
    lt_of_scale (m * (w * x.den * y.den)) _ _ both.0 in
    let n_high : (pos n *ℤ t) <ℤ pos (i * j * codes_of_zone) = lt_of_scale (m * (w * x.den * y.den)) _ _ both.1 in
    let wide_i : i * (j * codes_of_zone) ≤ n * (j * codes_of_zone) =
    mul-le-mul_right (j * codes_of_zone) z.first_most in
    let wide_j : j * (i * codes_of_zone) ≤ n * (i * codes_of_zone) =
    mul-le-mul_right (i * codes_of_zone) z.second_most in
    record {
      first_low = lt_of_scale n (neg_ℤ (pos (j * codes_of_zone))) t
          (omega (arith, ints, scale-neg n (pos (j * codes_of_zone))));
      first_high = lt_of_scale n t (pos (j * codes_of_zone)) (omega (arith, ints));
      second_low = lt_of_scale n (neg_ℤ (pos (i * codes_of_zone))) t
          (omega (arith, ints, scale-neg n (pos (i * codes_of_zone))));
      second_high = lt_of_scale n t (pos (i * codes_of_zone)) (omega (arith, ints));
    }

apart_is : (w i j : ℕ) (a b : ℤ) →
    pos 2 *ℤ (pos (w * (j * codes_of_zone)) *ℤ a -ℤ pos (i * codes_of_zone) *ℤ (pos w *ℤ b))
    ≡ pos (w * codes_of_zone) *ℤ (pos 2 *ℤ (pos j *ℤ a -ℤ pos i *ℤ b))
apart_is w i j a b = simp scales (omega (arith, ints))

-- an index of i zones lies strictly within half a zone of an index of j zones
strictly : (w i j : ℕ) (a b : ℤ) → 0 < w → 0 < i
    → neg_ℤ (pos (j * codes_of_zone)) <ℤ (pos 2 *ℤ (pos j *ℤ a -ℤ pos i *ℤ b))
    → (pos 2 *ℤ (pos j *ℤ a -ℤ pos i *ℤ b)) <ℤ pos (j * codes_of_zone) →
    IsStrictlyNear (half_zone w i) (angle_at w j b) (angle_at w i a)
strictly w i j a b some_w some_i low high =
    let k : 0 < w * codes_of_zone = mul_pos w codes_of_zone some_w (omega arith) in
    let t : ℤ = pos 2 *ℤ (pos j *ℤ a -ℤ pos i *ℤ b) in
    let scaled_low : (pos (w * codes_of_zone) *ℤ neg_ℤ (pos (j * codes_of_zone))) <ℤ (pos (w * codes_of_zone) *ℤ t) =
    scale-lt (w * codes_of_zone) _ _ k low in
    let scaled_high : (pos (w * codes_of_zone) *ℤ t) <ℤ (pos (w * codes_of_zone) *ℤ pos (j * codes_of_zone)) =
    scale-lt (w * codes_of_zone) _ _ k high in
    strictly_from_within w i a (angle_at w j b) some_i (
      rw (apart_is w i j a b) (omega
          (arith, ints, scaled_low, scale-neg (w * codes_of_zone) (pos (j * codes_of_zone)))),
      rw (apart_is w i j a b) (omega (arith, ints, scaled_high)),
    )

turned_is : (r i j : ℕ) (a b turns s : ℤ) →
    pos 2 *ℤ (pos j *ℤ (a +ℤ pos (i * codes_of_zone * r) *ℤ (turns +ℤ s)) -ℤ pos i *ℤ
    (b +ℤ pos (j * codes_of_zone * r) *ℤ s)) ≡ twice i j r a b turns
turned_is r i j a b turns s = simp scales (omega (arith, ints))

turned_back : (r i j : ℕ) (a b turns s : ℤ) →
    pos 2 *ℤ (pos i *ℤ (b +ℤ pos (j * codes_of_zone * r) *ℤ (s -ℤ turns)) -ℤ pos j *ℤ
    (a +ℤ pos (i * codes_of_zone * r) *ℤ s)) ≡ neg_ℤ (twice i j r a b turns)
turned_back r i j a b turns s = simp scales (omega (arith, ints))

-- the index a, changed by turns, is strictly near the angle of b changed by s turns
first_near : (w r i j : ℕ) (a b turns s : ℤ) → 0 < w → 0 < i → AreBetween i j (twice i j r a b turns) →
    IsStrictlyNear (half_zone w i) (angle_at w j (b +ℤ pos (circle j r) *ℤ s))
    (angle_at w i (a +ℤ pos (circle i r) *ℤ (turns +ℤ s)))
first_near w r i j a b turns s some_w some_i h =
    strictly w i j (a +ℤ pos (circle i r) *ℤ (turns +ℤ s)) (b +ℤ pos (circle j r) *ℤ s) some_w some_i
    (rw (turned_is r i j a b turns s) h.first_low) (rw (turned_is r i j a b turns s) h.first_high)

second_near : (w r i j : ℕ) (a b turns s : ℤ) → 0 < w → 0 < j → AreBetween i j (twice i j r a b turns) →
    IsStrictlyNear (half_zone w j) (angle_at w i (a +ℤ pos (circle i r) *ℤ s))
    (angle_at w j (b +ℤ pos (circle j r) *ℤ (s -ℤ turns)))
second_near w r i j a b turns s some_w some_j h =
    strictly w j i (b +ℤ pos (circle j r) *ℤ (s -ℤ turns)) (a +ℤ pos (circle i r) *ℤ s) some_w some_j
    (rw (turned_back r i j a b turns s) (omega (arith, ints, h.second_high)))
    (rw (turned_back r i j a b turns s) (omega (arith, ints, h.second_low)))

-- a longitude is the angle of an index that differs from its own by whole turns
longitude_turns : (w r zones b : ℕ) → w * r ≡ 360
    → (s : ℤ) × (grid_longitude w zones b ≡ angle_at w zones (pos b +ℤ pos (circle zones r) *ℤ s))
longitude_turns w r zones b full = by (nat_lt (w * b) (180 * (zones * codes_of_zone)))
  where
    by : (t : Bool) → (s : ℤ) × (record {
      num = if t then pos (w * b) else
          (pos (w * b) -ℤ pos (360 * (zones * codes_of_zone)));
      den = zones * codes_of_zone;
    }
        ≡ angle_at w zones (pos b +ℤ pos (circle zones r) *ℤ s))
    by true =
        let e : pos (w * b) ≡ pos w *ℤ (pos b +ℤ pos (circle zones r) *ℤ pos 0) = simp scales (omega (arith, ints)) in
        (pos 0, ap (λ (n : ℤ). let x : Fraction = record { num = n; den = zones * codes_of_zone } in x) e)
    by false =
        let turn : (w * r) * (zones * codes_of_zone) ≡ 360 * (zones * codes_of_zone) =
        ap (λ (n : ℕ). n * (zones * codes_of_zone)) full in
        let e : pos (w * b) -ℤ pos (360 * (zones * codes_of_zone))
        ≡ pos w *ℤ (pos b +ℤ pos (circle zones r) *ℤ neg_ℤ (pos 1)) = simp scales (omega (arith, ints)) in
        (neg_ℤ (pos 1), ap (λ (n : ℤ). let x : Fraction = record { num = n; den = zones * codes_of_zone } in x) e)

-- a longitude is the angle of any index congruent to its own, changed by whole turns
longitude_from : (w r zones b : ℕ) (t : ℤ) → w * r ≡ 360 → IsCongruent (circle zones r) t (pos b)
    → (s : ℤ) × (grid_longitude w zones b ≡ angle_at w zones (t +ℤ pos (circle zones r) *ℤ s))
longitude_from w r zones b t full h =
    let k = longitude_turns w r zones b full in
    let e : pos b +ℤ pos (circle zones r) *ℤ k.0 ≡ t +ℤ pos (circle zones r) *ℤ (k.0 -ℤ h.times) =
    rw h.apart (simp scales (omega (arith, ints))) in
    (k.0 -ℤ h.times, k.1 ∙ ap (λ (n : ℤ). angle_at w zones n) e)

lat_zones_between : (p q : Parity) → AreZones 60 59 (lat_zones p) (lat_zones q)
lat_zones_between Even Even =
    record {
      first_least = omega arith;
      second_least = omega arith;
      first_most = omega arith;
      second_most = omega arith;
      first_some = omega arith;
      second_some = omega arith;
    }
lat_zones_between Even Odd = record {
  first_least = omega arith;
  second_least = omega arith;
  first_most = omega arith;
  second_most = omega arith;
  first_some = omega arith;
  second_some = omega arith;
}
lat_zones_between Odd Even = record {
  first_least = omega arith;
  second_least = omega arith;
  first_most = omega arith;
  second_most = omega arith;
  first_some = omega arith;
  second_some = omega arith;
}
lat_zones_between Odd Odd = record {
  first_least = omega arith;
  second_least = omega arith;
  first_most = omega arith;
  second_most = omega arith;
  first_some = omega arith;
  second_some = omega arith;
}

lon_zones_between : (i j : ℕ) → 0 < i → 0 < j → AreZones (max i j) (min i j) i j
lon_zones_between i j p q = record {
  first_least = omega arith;
  second_least = omega arith;
  first_most = omega arith;
  second_most = omega arith;
  first_some = p;
  second_some = q;
}

-- an index changed by whole turns stays congruent
on_turn : (m : ℕ) (t s b : ℤ) → IsCongruent m t b → IsCongruent m (t +ℤ pos m *ℤ s) b
on_turn m t s b h = congruent_trans (record { times = s; apart = refl }) h

pub following_is_near : (span : Span) → FitsCircle span → FollowingIsNear span
following_is_near span full x y a b a_rounds b_rounds slow =
    let x_lat = degrees_of (lat_of x) in
    let y_lat = degrees_of (lat_of y) in
    let x_lon = degrees_of (lon_of x) in
    let y_lon = degrees_of (lon_of y) in
    let some : 0 < span.degrees = (span_limits span full).0 in
    let i = lat_zones a.parity in
    let j = lat_zones b.parity in
    let lat_parts = rw (straight_is x_lat y_lat) at (follow_parts span.degrees 60 59 _ slow.latitudes) in
    let lat = between span.degrees span.repeats 60 59 i j x_lat y_lat a.lat_index b.lat_index (pos 0) full
    (lat_zones_between a.parity b.parity) a_rounds.north_south b_rounds.north_south lat_parts.0 lat_parts.1 in
    let a_still : a.lat_index +ℤ pos (circle i span.repeats) *ℤ (pos 0 +ℤ pos 0) ≡ a.lat_index = omega (arith, ints) in
    let b_still : b.lat_index +ℤ pos (circle j span.repeats) *ℤ pos 0 ≡ b.lat_index = omega (arith, ints) in
    let a_same : a.lat_index +ℤ pos (circle i span.repeats) *ℤ pos 0 ≡ a.lat_index = omega (arith, ints) in
    let b_same : b.lat_index +ℤ pos (circle j span.repeats) *ℤ (pos 0 -ℤ pos 0) ≡ b.lat_index = omega (arith, ints) in
    let turns = slow.longitudes.0 in
    let s = a_rounds.east_west in
    let t = b_rounds.east_west in
    let some_a = some_zones_of_point span a a_rounds.of_grid in
    let some_b = some_zones_of_point span b b_rounds.of_grid in
    let lon_parts = rw (around_is x_lon y_lon turns, one_more (x_lon.den * y_lon.den)) at
    (follow_parts span.degrees (max a.zones b.zones) (min a.zones b.zones) _ slow.longitudes.1) in
    let lon = between span.degrees span.repeats (max a.zones b.zones) (min a.zones b.zones) a.zones b.zones x_lon y_lon
    s.0 t.0 turns full
    (lon_zones_between a.zones b.zones some_a some_b) s.1 t.1 lon_parts.0 lon_parts.1 in
    let b_lon = longitude_from span.degrees span.repeats b.zones b.lon_index t.0 full t.2 in
    let a_lon = longitude_from span.degrees span.repeats a.zones a.lon_index s.0 full s.2 in (
      record {
        north_south = rw (a_still, b_still) at
            (first_near span.degrees span.repeats i j a.lat_index b.lat_index (pos 0) (pos 0) some
            (some_lat_zones a.parity) lat);
        east_west = (
          s.0 +ℤ pos (circle a.zones span.repeats) *ℤ (turns +ℤ b_lon.0),
          on_turn (circle a.zones span.repeats) s.0 (turns +ℤ b_lon.0) (pos a.lon_index) s.2,
          rw b_lon.1 (first_near span.degrees span.repeats a.zones b.zones s.0 t.0 turns b_lon.0 some some_a lon),
        );
      },
      record {
        north_south = rw (a_same, b_same) at
            (second_near span.degrees span.repeats i j a.lat_index b.lat_index (pos 0) (pos 0) some
            (some_lat_zones b.parity) lat);
        east_west = (
          t.0 +ℤ pos (circle b.zones span.repeats) *ℤ (a_lon.0 -ℤ turns),
          on_turn (circle b.zones span.repeats) t.0 (a_lon.0 -ℤ turns) (pos b.lon_index) t.2,
          rw a_lon.1 (second_near span.degrees span.repeats a.zones b.zones s.0 t.0 turns a_lon.0 some some_b lon),
        );
      },
    )
