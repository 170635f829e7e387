-- The indices of the positions in one zone are 2^17 consecutive numbers.
use Rattle.std.proofs.Common.{◌≡◌, ℕ, ◌+◌, ◌*◌, ◌<◌, ◌≤◌, ℤ, pos, neg_ℤ, ◌+ℤ◌, ◌-ℤ◌, ◌*ℤ◌, ◌≤ℤ◌, ◌<ℤ◌, ap, ◌∙◌, sym}
use Rattle.std.proofs.Common.{arith, mul-le-mul_right}
use Rattle.std.proofs.lemmas.Int.{ints}
use Rattle.sq_angle.specs.Fraction.{Fraction}
use Rattle.sq_angle.specs.Nearest.{IsNearest}
use Rattle.sq_angle.specs.Whole.{IsCongruent}
use Rattle.sq_angle.specs.Scale.{scale-sum, scale-neg, scale-scale, scale-le, lt_of_scale}
use Rattle.sq_angle.proofs.Floors.{quotient_below, block_once}
use Rattle.sq_angle.proofs.Rounding.{step_of, rounded_from_nearest, nearest_from_rounded, odd_below}
use Rattle.sq_cpr.specs.Grid.{step, circle}
use Rattle.sq_cpr.specs.Zones.{IsInZone, turned}

module _ (x : Fraction) (w d : ℕ) (a j : ℤ) (n : IsNearest x (step_of w d) a) where
  -- the index nearest to an angle in a zone is at least the zone's first index
  pub zone_from : IsInZone x (step_of w d) j → (pos 131072 *ℤ j) ≤ℤ a
  zone_from zone =
      let e = x.den * w in
      let m = pos (2 * d) *ℤ x.num +ℤ pos e in
      let r = rounded_from_nearest x w d a n in
      let from = zone.from in
      let edge = scale-scale x.den w (pos 2 *ℤ (pos 131072 *ℤ j) -ℤ pos 1) ∙ odd_below (pos 131072 *ℤ j) e in
      let h : (pos 131072 *ℤ j) <ℤ (a +ℤ pos 1) =
      quotient_below (pos 131072 *ℤ j) a m (2 * e) (omega (arith, ints)) r.below in
      omega (arith, ints)

  -- the index nearest to an angle in a zone is below the next zone's first index
  pub zone_below : IsInZone x (step_of w d) j → a <ℤ (pos 131072 *ℤ j +ℤ pos 131072)
  zone_below zone =
      let e = x.den * w in
      let m = pos (2 * d) *ℤ x.num +ℤ pos e in
      let r = rounded_from_nearest x w d a n in
      let below = zone.below in
      let next = pos 131072 *ℤ (j +ℤ pos 1) in
      let next_is = scale-sum 131072 j (pos 1) in
      let edge = scale-scale x.den w (pos 2 *ℤ next -ℤ pos 1) ∙ odd_below next e in
      let h : a <ℤ next = lt_of_scale (2 * e) a next (omega (arith, ints)) in
      omega (arith, ints)

  -- if the nearest index is one of a zone's, the angle lies in that zone
  pub zone_of_index : (pos 131072 *ℤ j) ≤ℤ a → a <ℤ (pos 131072 *ℤ j +ℤ pos 131072) → IsInZone x (step_of w d) j
  zone_of_index low high =
      let e = x.den * w in
      let r = rounded_from_nearest x w d a n in
      let from = r.from in
      let below = r.below in
      let first = pos 131072 *ℤ j in
      let next = pos 131072 *ℤ (j +ℤ pos 1) in
      let next_is = scale-sum 131072 j (pos 1) in
      let edge = scale-scale x.den w (pos 2 *ℤ first -ℤ pos 1) ∙ odd_below first e in
      let next_edge = scale-scale x.den w (pos 2 *ℤ next -ℤ pos 1) ∙ odd_below next e in
      let start = scale-le (2 * e) first a low in
      let end = scale-le (2 * e) (a +ℤ pos 1) next (omega (arith, ints)) in
      let one_more = scale-sum (2 * e) a (pos 1) in
      record { from = omega (arith, ints); below = omega (arith, ints) }

-- a circle of steps is 360 degrees
circle_of_degrees : (w r z xd : ℕ) → w * r ≡ 360 → (2 * (xd * w)) * (z * 131072 * r) ≡ (2 * (z * 131072)) * (360 * xd)
circle_of_degrees w r z xd e =
    let f : (w * r) * (z * xd * 262144) ≡ 360 * (z * xd * 262144) = ap (λ n. n * (z * xd * 262144)) e in
    omega arith

-- a whole turn moves the nearest index by a circle of steps
pub nearest_turned : (x : Fraction) (w r z : ℕ) (k turns : ℤ) → w * r ≡ 360 → IsNearest x (step w z) k
    → IsNearest (turned x turns) (step w z) (k +ℤ pos (circle z r) *ℤ turns)
nearest_turned x w r z k turns e n =
    let E = 2 * (x.den * w) in
    let D = 2 * (z * 131072) in
    let C = z * 131072 * r in
    let rounded = rounded_from_nearest x w (z * 131072) k n in
    let from = rounded.from in
    let below = rounded.below in
    let sides : pos E *ℤ (pos C *ℤ turns) ≡ pos D *ℤ (pos (360 * x.den) *ℤ turns)
    = scale-scale E C turns ∙ ap (λ (m : ℕ). pos m *ℤ turns) (circle_of_degrees w r z x.den e)
    ∙ sym (scale-scale D (360 * x.den) turns) in
    let left = scale-sum E k (pos C *ℤ turns) in
    let right = scale-sum D x.num (pos (360 * x.den) *ℤ turns) in
    nearest_from_rounded (turned x turns) w (z * 131072) (k +ℤ pos C *ℤ turns)
    (record { from = omega (arith, ints); below = omega (arith, ints) })

-- if b and b + c * turns both lie in [0, c), turns is 0
still : (b c : ℕ) (turns : ℤ) → b < c → pos 0 ≤ℤ (pos b +ℤ pos c *ℤ turns) → (pos b +ℤ pos c *ℤ turns) <ℤ pos c
    → turns ≡ pos 0
still b c turns h low high =
    block_once turns (pos 0) (pos b +ℤ pos c *ℤ turns) c (omega (arith, ints)) (omega (arith, ints))
    (omega (arith, ints)) (omega (arith, ints))

-- the longitude index of a position's point is one of the position's longitude zone
pub lon_zone_index : (x : Fraction) (w r z b l : ℕ) (k turns : ℤ) → w * r ≡ 360 → IsNearest x (step w z) k
    → IsCongruent (circle z r) k (pos b) → b < circle z r → l < z * r
    → IsInZone (turned x turns) (step w z) (pos l)
    → ((pos 131072 *ℤ pos l) ≤ℤ pos b) × (pos b <ℤ (pos 131072 *ℤ pos l +ℤ pos 131072))
lon_zone_index x w r z b l k turns e n c h few zone =
    let C = z * 131072 * r in
    let k' = k +ℤ pos C *ℤ turns in
    let n' = nearest_turned x w r z k turns e n in
    let from = zone_from (turned x turns) w (z * 131072) k' (pos l) n' zone in
    let below = zone_below (turned x turns) w (z * 131072) k' (pos l) n' zone in
    let total = scale-sum C c.times turns in
    let room : (l + 1) * 131072 ≤ z * r * 131072 = mul-le-mul_right 131072 (omega arith) in
    let none = ap (λ s. pos C *ℤ s)
    (still b C (c.times +ℤ turns) h (omega (arith, ints, c.apart)) (omega (arith, ints, c.apart))) in
    (omega (arith, ints, c.apart), omega (arith, ints, c.apart))

-- a position lies in the zone of its longitude index, after the turns by which that index differs from the nearest
-- one
pub lon_index_zone : (x : Fraction) (w r z b l : ℕ) (k : ℤ) → w * r ≡ 360 → IsNearest x (step w z) k
    → (c : IsCongruent (circle z r) k (pos b))
    → (pos 131072 *ℤ pos l) ≤ℤ pos b → pos b <ℤ (pos 131072 *ℤ pos l +ℤ pos 131072)
    → IsInZone (turned x (neg_ℤ c.times)) (step w z) (pos l)
lon_index_zone x w r z b l k e n c low high =
    let C = z * 131072 * r in
    let turns = neg_ℤ c.times in
    let n' = nearest_turned x w r z k turns e n in
    let back = scale-neg C c.times in
    let k' = k +ℤ pos C *ℤ turns in
    let here : k' ≡ pos b = omega (arith, ints, c.apart) in
    zone_of_index (turned x turns) w (z * 131072) k' (pos l) n' (omega (arith, ints)) (omega (arith, ints))
