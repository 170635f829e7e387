-- Half-open windows as long as a step: each contains exactly one of the numbers that lie a step apart.
use Rattle.std.proofs.Common.{◌≡◌, ℕ, ◌*◌, ◌<◌, ◌≤◌, arith, ℤ, pos, unsigned_abs, neg_ℤ, ◌+ℤ◌, ◌-ℤ◌, ◌*ℤ◌, ◌≤ℤ◌, ◌<ℤ◌}
use Rattle.std.proofs.lemmas.Int.{ints}
use Rattle.std.specs.Int.{int_div_euclid}
use Rattle.sq_angle.specs.Whole.{ExactlyOne}
use Rattle.sq_angle.specs.Scale.{scale-neg}
use Rattle.sq_angle.proofs.Floors.{div_euclid-le, div_euclid-lt, div_euclid-small, le_from_scaled}

-- exactly one c + 2hj lies in (-h, h]
pub one_upper : (h : ℕ) (c : ℤ) → 0 < h
    → ExactlyOne (λ (j : ℤ). (neg_ℤ (pos h) <ℤ (c +ℤ pos (2 * h) *ℤ j)) × ((c +ℤ pos (2 * h) *ℤ j) ≤ℤ pos h))
one_upper h c positive =
    let k : ℕ = 2 * h in
    let a : ℤ = pos h -ℤ c in
    let q : ℤ = int_div_euclid a (pos k) in
    let twice : 0 < k = omega arith in
    let low : (pos k *ℤ q) ≤ℤ a = div_euclid-le a k twice in
    let high : a <ℤ (pos k *ℤ q +ℤ pos k) = div_euclid-lt a k twice in (
      q,
      (omega (arith, ints), omega (arith, ints)),
      λ y (w : (neg_ℤ (pos h) <ℤ (c +ℤ pos (2 * h) *ℤ y)) × ((c +ℤ pos (2 * h) *ℤ y) ≤ℤ pos h)).
          let under : y ≤ℤ q = le_from_scaled k y q (omega (arith, ints)) in
          let over : q ≤ℤ y = le_from_scaled k q y (omega (arith, ints)) in
          omega (arith, ints),
    )

-- exactly one c + 2hj lies in [-h, h)
pub one_lower : (h : ℕ) (c : ℤ) → 0 < h
    → ExactlyOne (λ (j : ℤ). (neg_ℤ (pos h) ≤ℤ (c +ℤ pos (2 * h) *ℤ j)) × ((c +ℤ pos (2 * h) *ℤ j) <ℤ pos h))
one_lower h c positive =
    let k : ℕ = 2 * h in
    let a : ℤ = c +ℤ pos h in
    let q : ℤ = int_div_euclid a (pos k) in
    let twice : 0 < k = omega arith in
    let low : (pos k *ℤ q) ≤ℤ a = div_euclid-le a k twice in
    let high : a <ℤ (pos k *ℤ q +ℤ pos k) = div_euclid-lt a k twice in (
      neg_ℤ q,
      (omega (arith, ints, scale-neg k q), omega (arith, ints, scale-neg k q)),
      λ y (w : (neg_ℤ (pos h) ≤ℤ (c +ℤ pos (2 * h) *ℤ y)) × ((c +ℤ pos (2 * h) *ℤ y) <ℤ pos h)).
          let under : neg_ℤ y ≤ℤ q = le_from_scaled k (neg_ℤ y) q (rw scale-neg (omega (arith, ints))) in
          let over : q ≤ℤ neg_ℤ y = le_from_scaled k q (neg_ℤ y) (rw scale-neg (omega (arith, ints))) in
          omega (arith, ints),
    )

-- the bounds of a quotient rounded down, over plain numbers
pub quotient_down_parts : (value q : ℤ) (divisor : ℕ) → 0 < divisor → q ≡ int_div_euclid value (pos divisor) →
    ((pos divisor *ℤ q) ≤ℤ value) × (value <ℤ (pos divisor *ℤ q +ℤ pos divisor)) × (unsigned_abs q ≤ unsigned_abs value)
quotient_down_parts value q divisor h e =
    rw e (div_euclid-le value divisor h, div_euclid-lt value divisor h, div_euclid-small value divisor h)

-- the whole number of turns that brings `away` into the window (-width/2, width/2]
pub turns_parts : (away q : ℤ) (width : ℕ) → 0 < width →
    (pos (2 * width) *ℤ q) ≤ℤ (pos 2 *ℤ away +ℤ (pos width -ℤ pos 1))
    → (pos 2 *ℤ away +ℤ (pos width -ℤ pos 1)) <ℤ (pos (2 * width) *ℤ q +ℤ pos (2 * width)) →
    (neg_ℤ (pos width) <ℤ (pos 2 *ℤ away -ℤ pos (2 * width) *ℤ q))
    × ((pos 2 *ℤ away -ℤ pos (2 * width) *ℤ q) ≤ℤ pos width)
turns_parts away q width h low high = (omega (arith, ints), omega (arith, ints))
