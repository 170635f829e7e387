-- Nearest indices and differences below a limit, with the denominators multiplied out.
use Rattle.std.proofs.Common.{◌≡◌, ℕ, ◌*◌, ℤ, pos, neg_ℤ, ◌+ℤ◌, ◌-ℤ◌, ◌*ℤ◌, ◌≤ℤ◌, ◌<ℤ◌, arith}
use Rattle.std.proofs.lemmas.Int.{ints}
use Rattle.sq_angle.specs.Fraction.{Fraction, minus}
use Rattle.sq_angle.specs.Nearest.{IsNearest}
use Rattle.sq_angle.specs.Scale.{scales, lt_of_scale}
use Rattle.sq_angle.proofs.Rounding.{rounded_from_nearest}
use Rattle.sq_cpr.specs.Grid.{codes_of_zone, step}
use Rattle.sq_cpr.specs.Close.{difference}
use Rattle.sq_cpr.specs.Slow.{IsSmallerThan, slow_limit, following_limit}

-- twice the distance of x above the index, multiplied out
abbrev pub above_index : ℕ → ℕ → Fraction → ℤ → ℤ
above_index w zones x a = pos 2 *ℤ (pos (zones * codes_of_zone) *ℤ x.num -ℤ pos (w * x.den) *ℤ a)

flat : (w zones xd : ℕ) (xn a : ℤ)
    → pos 2 *ℤ (pos (zones * codes_of_zone) *ℤ xn -ℤ pos (w * xd) *ℤ a)
    ≡ pos (2 * (zones * codes_of_zone)) *ℤ xn -ℤ pos (2 * (xd * w)) *ℤ a
flat w zones xd xn a = simp scales (omega (arith, ints))

pub nearest_parts : (w zones : ℕ) (x : Fraction) (a : ℤ) → IsNearest x (step w zones) a →
    (neg_ℤ (pos (w * x.den)) ≤ℤ above_index w zones x a) × (above_index w zones x a ≤ℤ pos (w * x.den))
nearest_parts w zones x a h =
    let k = rounded_from_nearest x w (zones * codes_of_zone) a h in (
      rw (flat w zones x.den x.num a) (omega (arith, ints, k.from)),
      rw (flat w zones x.den x.num a) (omega (arith, ints, k.below)),
    )

slow_left : (n m : ℕ) (d : ℤ)
    → pos (2 * n * m * (m * codes_of_zone)) *ℤ d ≡ pos m *ℤ (pos (2 * n * m * codes_of_zone) *ℤ d)
slow_left n m d = simp scales (omega (arith, ints))

slow_right : (w n m den : ℕ) → pos den *ℤ (pos (m * codes_of_zone) *ℤ pos w -ℤ pos (2 * n * m) *ℤ pos w)
    ≡ pos m *ℤ (pos (w * codes_of_zone * den) -ℤ pos (2 * n * w * den))
slow_right w n m den = simp scales (omega (arith, ints))

slow_opposite : (w n m den : ℕ)
    → pos den *ℤ neg_ℤ (pos (m * codes_of_zone) *ℤ pos w -ℤ pos (2 * n * m) *ℤ pos w)
    ≡ pos m *ℤ neg_ℤ (pos (w * codes_of_zone * den) -ℤ pos (2 * n * w * den))
slow_opposite w n m den = simp scales (omega (arith, ints))

-- a difference below the slow limit, multiplied out
pub slow_parts : (w n m : ℕ) (d : Fraction) → IsSmallerThan (slow_limit w n m) d →
    (neg_ℤ (pos (w * codes_of_zone * d.den) -ℤ pos (2 * n * w * d.den)) <ℤ (pos (2 * n * m * codes_of_zone) *ℤ d.num))
    × ((pos (2 * n * m * codes_of_zone) *ℤ d.num) <ℤ (pos (w * codes_of_zone * d.den) -ℤ pos (2 * n * w * d.den)))
slow_parts w n m d h = (
  lt_of_scale m _ _ (rw (slow_left n m d.num, slow_opposite w n m d.den) at h.above),
  lt_of_scale m _ _ (rw (slow_left n m d.num, slow_right w n m d.den) at h.below),
)

follow_left : (n m : ℕ) (d : ℤ) → pos (2 * n * (m * codes_of_zone)) *ℤ d ≡ pos (2 * n * m * codes_of_zone) *ℤ d
follow_left n m d = omega (arith, ints)

follow_right : (w n m den : ℕ)
    → pos den *ℤ (pos (m * codes_of_zone) *ℤ pos w -ℤ pos (2 * n) *ℤ pos w)
    ≡ pos (w * (m * codes_of_zone) * den) -ℤ pos (2 * n * w * den)
follow_right w n m den = simp scales (omega (arith, ints))

follow_opposite : (w n m den : ℕ)
    → pos den *ℤ neg_ℤ (pos (m * codes_of_zone) *ℤ pos w -ℤ pos (2 * n) *ℤ pos w)
    ≡ neg_ℤ (pos (w * (m * codes_of_zone) * den) -ℤ pos (2 * n * w * den))
follow_opposite w n m den = simp scales (omega (arith, ints))

-- a difference below the limit for following, multiplied out
pub follow_parts : (w n m : ℕ) (d : Fraction) → IsSmallerThan (following_limit w n m) d →
    (neg_ℤ (pos (w * (m * codes_of_zone) * d.den) -ℤ pos (2 * n * w * d.den)) <ℤ
    (pos (2 * n * m * codes_of_zone) *ℤ d.num))
    × ((pos (2 * n * m * codes_of_zone) *ℤ d.num) <ℤ (pos (w * (m * codes_of_zone) * d.den) -ℤ pos (2 * n * w * d.den)))
follow_parts w n m d h = (
  rw (follow_left n m d.num, follow_opposite w n m d.den) at h.above,
  rw (follow_left n m d.num, follow_right w n m d.den) at h.below,
)

-- the numerator of x - y plus turns, over both denominators
abbrev pub between_angles : Fraction → Fraction → ℤ → ℤ
between_angles x y turns = pos y.den *ℤ x.num -ℤ pos x.den *ℤ y.num +ℤ pos (360 * x.den * y.den) *ℤ turns

num_around : (xd yd : ℕ) (xn yn turns : ℤ)
    → pos 1 *ℤ (pos yd *ℤ xn -ℤ pos xd *ℤ yn) +ℤ pos (xd * yd) *ℤ (pos 360 *ℤ turns)
    ≡ pos yd *ℤ xn -ℤ pos xd *ℤ yn +ℤ pos (360 * xd * yd) *ℤ turns
num_around xd yd xn yn turns = simp scales (omega (arith, ints))

pub around_is : (x y : Fraction) (turns : ℤ) → (difference 360 x y turns).num ≡ between_angles x y turns
around_is x y turns = num_around x.den y.den x.num y.num turns

pub straight_is : (x y : Fraction) → (minus x y).num ≡ between_angles x y (pos 0)
straight_is x y = omega (arith, ints)

pub one_more : (a : ℕ) → a * 1 ≡ a
one_more a = omega arith
