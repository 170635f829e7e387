-- The nearest whole number of steps of w/d: laws over whole numbers.
use Rattle.std.proofs.Common.{◌≡◌, ◌↔◌, ℕ, ◌+◌, ◌*◌, ◌/◌, ◌<◌, ℤ, pos, neg_ℤ, ◌+ℤ◌, ◌-ℤ◌, ◌*ℤ◌, ◌≤ℤ◌, ◌<ℤ◌, ap, ◌∙◌}
use Rattle.std.proofs.Common.{sym, arith}
use Rattle.std.specs.Int.{int_div_euclid}
use Rattle.std.proofs.lemmas.Int.{ints}
use Rattle.sq_angle.specs.Fraction.{Fraction}
use Rattle.sq_angle.specs.Nearest.{IsNearest}
use Rattle.sq_angle.specs.Whole.{ExactlyOne}
use Rattle.sq_angle.specs.Scale.{scales, scale-scale}
use Rattle.sq_angle.proofs.Floors.{div_euclid-le, div_euclid-lt, quotient_below}

-- a is k/2e rounded to the nearest, halves up: (2a - 1)e ≤ k < (2a + 1)e
pub record IsRounded (k : ℤ) (e : ℕ) (a : ℤ) : Type 0 where
  pub from : (pos (2 * e) *ℤ a) ≤ℤ (k +ℤ pos e)
  pub below : (k +ℤ pos e) <ℤ (pos (2 * e) *ℤ a +ℤ pos (2 * e))

-- adding half the divisor and rounding the quotient down rounds to the nearest
pub rounded : (k : ℤ) (e : ℕ) → 0 < e → IsRounded k e (int_div_euclid (k +ℤ pos e) (pos (2 * e)))
rounded k e p = record {
  from = div_euclid-le (k +ℤ pos e) (2 * e) (omega arith);
  below = div_euclid-lt (k +ℤ pos e) (2 * e) (omega arith);
}

-- a number rounds to at most one number
pub rounded_once : (k : ℤ) (e : ℕ) (a b : ℤ) → IsRounded k e a → IsRounded k e b → a ≡ b
rounded_once k e a b p q =
    let h = quotient_below a b (k +ℤ pos e) (2 * e) p.from q.below in
    let g = quotient_below b a (k +ℤ pos e) (2 * e) q.from p.below in
    omega (arith, ints)

-- e (2a - 1) = 2e a - e
pub odd_below : (a : ℤ) (e : ℕ) → pos e *ℤ (pos 2 *ℤ a -ℤ pos 1) ≡ pos (2 * e) *ℤ a -ℤ pos e
odd_below a e = simp scales (omega (arith, ints))

-- e (2a + 1) = 2e a + e
pub odd_above : (a : ℤ) (e : ℕ) → pos e *ℤ (pos 2 *ℤ a +ℤ pos 1) ≡ pos (2 * e) *ℤ a +ℤ pos e
odd_above a e = simp scales (omega (arith, ints))

-- a step of w/d
abbrev pub step_of : ℕ → ℕ → Fraction
step_of w d = record { num = pos w; den = d }

-- x * 2d / 2w rounded, with x's denominator multiplied out, is the nearest number of steps of w/d
pub nearest_from_rounded : (x : Fraction) (w d : ℕ) (a : ℤ) → IsRounded (pos (2 * d) *ℤ x.num) (x.den * w) a
    → IsNearest x (step_of w d) a
nearest_from_rounded x w d a r =
    let below = scale-scale x.den w (pos 2 *ℤ a -ℤ pos 1) ∙ odd_below a (x.den * w) in
    let above = scale-scale x.den w (pos 2 *ℤ a +ℤ pos 1) ∙ odd_above a (x.den * w) in
    record { from = omega (arith, ints); below = omega (arith, ints) }

-- the number of steps nearest to x is a rounded quotient
pub rounded_from_nearest : (x : Fraction) (w d : ℕ) (a : ℤ) → IsNearest x (step_of w d) a
    → IsRounded (pos (2 * d) *ℤ x.num) (x.den * w) a
rounded_from_nearest x w d a r =
    let below = scale-scale x.den w (pos 2 *ℤ a -ℤ pos 1) ∙ odd_below a (x.den * w) in
    let above = scale-scale x.den w (pos 2 *ℤ a +ℤ pos 1) ∙ odd_above a (x.den * w) in
    let from = r.from in
    let to = r.below in
    record { from = omega (arith, ints); below = omega (arith, ints) }

-- each x has at most one nearest number of steps
pub nearest_once : (x : Fraction) (w d : ℕ) (a b : ℤ) → IsNearest x (step_of w d) a → IsNearest x (step_of w d) b
    → a ≡ b
nearest_once x w d a b p q = rounded_once _ _ a b (rounded_from_nearest x w d a p) (rounded_from_nearest x w d b q)

-- a product of positive numbers is positive
mul_pos : (a b : ℕ) → 0 < a → 0 < b → 0 < a * b
mul_pos a b p q = grind arith

-- each x has exactly one nearest number of steps
pub one_nearest : (x : Fraction) (w d : ℕ) → 0 < x.den → 0 < w → ExactlyOne (λ (a : ℤ). IsNearest x (step_of w d) a)
one_nearest x w d p q =
    let k = pos (2 * d) *ℤ x.num in
    let e = x.den * w in
    let a = int_div_euclid (k +ℤ pos e) (pos (2 * e)) in
    let is = nearest_from_rounded x w d a (rounded k e (mul_pos x.den w p q)) in
    (a, is, λ b n. nearest_once x w d b a n is)

-- a whole number of steps is nearest to itself
pub nearest_itself : (a : ℤ) (w d : ℕ) → 0 < w → 0 < d
    → IsNearest (record { num = pos w *ℤ a; den = d }) (step_of w d) a
nearest_itself a w d p q =
    let grouped : 2 * d * w ≡ 2 * (d * w) = omega arith in
    let same = scale-scale (2 * d) w a ∙ ap (λ (n : ℕ). pos n *ℤ a) grouped in
    let positive : 0 < d * w = mul_pos d w q p in
    nearest_from_rounded (record { num = pos w *ℤ a; den = d }) w d a
    (record { from = omega (arith, ints); below = omega (arith, ints) })

-- the nearest number of steps as a quotient of natural numbers, as a body computes it
pub nearest_quotient : (n xd w d v : ℕ) → v ≡ (2 * d * n + xd * w) / (2 * (xd * w)) → 0 < xd → 0 < w
    → IsNearest (record { num = pos n; den = xd }) (step_of w d) (pos v)
nearest_quotient n xd w d v e p q =
    let positive : 0 < xd * w = mul_pos xd w p q in
    let r = rounded (pos (2 * d * n)) (xd * w) positive in
    nearest_from_rounded (record { num = pos n; den = xd }) w d (pos v) (rw e r)

-- the nearest number of units of 1/d
pub nearest_unit : (n xd d : ℕ) → 0 < xd
    → IsNearest (record { num = pos n; den = xd }) (step_of 1 d) (pos ((2 * d * n + xd) / (2 * xd)))
nearest_unit n xd d p =
    let one : xd * 1 ≡ xd = omega arith in
    nearest_quotient n xd 1 d ((2 * d * n + xd) / (2 * xd)) (ap (λ e. (2 * d * n + e) / (2 * e)) (sym one)) p
    (omega arith)
