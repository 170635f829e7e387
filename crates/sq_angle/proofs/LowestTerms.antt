-- Two numbers divided by their greatest common divisor.
use Rattle.std.proofs.Common.{◌≡◌, ℕ, zero, suc, zero-mul, ◌*◌, ◌/◌, ◌≤◌, arith, one-mul, ap, sym, subst, ◌∙◌}
use Rattle.std.specs.Int.{IsGcd, ◌∣◌}
use Rattle.std.proofs.Math.Nat.{mul-dvd-mul_right, dvd_of_mul-dvd-mul_right, div-mul_cancel, one-dvd}

-- nothing above 1 divides both quotients
pub coprime_after : (a b g : ℕ) → 1 ≤ g → IsGcd a b g → IsGcd (a / g) (b / g) 1
coprime_after a b g p h = (
  one-dvd _,
  one-dvd _,
  λ d da db.
      let whole_a = div-mul_cancel g h.0 in
      let whole_b = div-mul_cancel g h.1 in
      let a' : (d * g) ∣ a = subst (λ n. (d * g) ∣ n) whole_a (mul-dvd-mul_right d da g) in
      let b' : (d * g) ∣ b = subst (λ n. (d * g) ∣ n) whole_b (mul-dvd-mul_right d db g) in
      let up : (d * g) ∣ (1 * g) = subst (λ n. (d * g) ∣ n) (sym (one-mul g)) (h.2 (d * g) a' b') in
      dvd_of_mul-dvd-mul_right d p up,
)

-- num/g over den/g is num/den
pub same_value : (a b g : ℕ) → g ∣ a → g ∣ b → a / g * b ≡ a * (b / g)
same_value a b g h k =
    let whole_a = div-mul_cancel g h in
    let whole_b = div-mul_cancel g k in
    ap (λ n. a / g * n) (sym whole_b) ∙ grouped (a / g) (b / g) g ∙ ap (λ n. n * (b / g)) whole_a
  where
    grouped : (x y z : ℕ) → x * (y * z) ≡ x * z * y
    grouped x y z = omega arith

-- the quotient of a positive number is positive
pub quotient_positive : (b g : ℕ) → 1 ≤ b → g ∣ b → 1 ≤ b / g
quotient_positive b g p h = by_cases (b / g) g b (div-mul_cancel g h) p
  where
    by_cases : (q g b : ℕ) → q * g ≡ b → 1 ≤ b → 1 ≤ q
    by_cases zero g b e p = absurd (omega (arith, zero-mul g))
    by_cases (suc q) g b e p = omega arith
