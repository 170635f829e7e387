-- A fraction has at most one form in lowest terms.
use Rattle.std.proofs.Common.{◌≡◌, ℕ, zero, suc, ◌-◌, ◌*◌, ◌/◌, ◌%◌, ◌≤◌, pos, ◌*ℤ◌, unsigned_abs, refl, ap, ◌∙◌, sym}
use Rattle.std.proofs.Common.{subst, arith, one-mul, mul_comm, div-add-mod'}
use Rattle.std.specs.Int.{IsGcd, ◌∣◌}
use Rattle.std.proofs.Math.Nat.{dvd-sub, dvd-mul_left_of_dvd, dvd-mul_right, dvd_antisymm}
use Rattle.std.proofs.lemmas.Nat.Gcd.{IsGcd-from_zero, IsGcd-from_mod, same_from_IsGcd}
use Rattle.std.proofs.lemmas.Int.{unsigned_abs-mul}
use Rattle.sq_angle.specs.Fraction.{Fraction, ◌≃◌}
use Rattle.sq_angle.specs.Lowest.{IsLowestTerms}
use Rattle.sq_angle.specs.Laws.{OneLowestForm, OneLowestFormOfAngles}
use Rattle.sq_angle.specs.Scale.{same_of_scale}
use Rattle.sq_angle.proofs.Fractions.{value_trans, value_sym}
use Rattle.sq_angle.proofs.Orders.{same_angle-value}

-- a divisor of a k and of b k divides (a % b) k
remainder_divides : (a b k d : ℕ) → d ∣ (a * k) → d ∣ (b * k) → d ∣ (a % b * k)
remainder_divides a b k d p q =
    let split = ap (λ n. n * k) (div-add-mod' a b) in
    let same : a * k - a / b * (b * k) ≡ a % b * k = omega arith in
    subst (λ n. d ∣ n) same (dvd-sub d p (dvd-mul_left_of_dvd d q (a / b)))

-- each divisor of a k and of b k divides g k, where g is the greatest common divisor of a and b
euclid : (n a b : ℕ) → b ≤ n → (g : ℕ) × IsGcd a b g × ((k d : ℕ) → d ∣ (a * k) → d ∣ (b * k) → d ∣ (g * k))
euclid zero a b h = (a, IsGcd-from_zero a b (omega arith), λ k d p q. p)
euclid (suc n) a zero h = (a, IsGcd-from_zero a zero refl, λ k d p q. p)
euclid (suc n) a (suc m) h =
    let r = euclid n (suc m) (a % suc m) (omega arith) in
    (r.0, IsGcd-from_mod a (suc m) r.0 r.1, λ k d p q. r.2 k d q (remainder_divides a (suc m) k d p q))

-- a divisor of a k and of b k divides k if a and b are coprime
coprime_divides : (a b k d : ℕ) → IsGcd a b 1 → d ∣ (a * k) → d ∣ (b * k) → d ∣ k
coprime_divides a b k d h p q =
    let r = euclid b a b (omega arith) in
    let one = same_from_IsGcd a b r.0 1 r.1 h in
    subst (λ n. d ∣ n) (ap (λ g. g * k) one ∙ one-mul k) (r.2 k d p q)

-- the denominator of lowest terms divides that of every fraction of the same value
den_divides : (x y : Fraction) → IsLowestTerms x → x ≃ y → x.den ∣ y.den
den_divides x y p e =
    let magnitudes : y.den * unsigned_abs x.num ≡ x.den * unsigned_abs y.num =
    sym (unsigned_abs-mul (pos y.den) x.num) ∙ ap unsigned_abs e ∙ unsigned_abs-mul (pos x.den) y.num in
    let turned : unsigned_abs x.num * y.den ≡ x.den * unsigned_abs y.num =
    mul_comm (unsigned_abs x.num) y.den ∙ magnitudes in
    coprime_divides (unsigned_abs x.num) x.den y.den x.den p.coprime
    (subst (λ n. x.den ∣ n) (sym turned) (dvd-mul_right x.den (unsigned_abs y.num)))
    (dvd-mul_right x.den y.den)

-- lowest terms of the same value are equal
pub same_lowest_terms : (x y : Fraction) → IsLowestTerms x → IsLowestTerms y → x ≃ y → x ≡ y
same_lowest_terms x y p q e =
    let dens = dvd_antisymm (den_divides x y p e) (den_divides y x q (sym e)) in
    let nums = same_of_scale y.den x.num y.num q.positive (e ∙ ap (λ n. pos n *ℤ y.num) dens) in
    ap (λ n. record { num = n; den = x.den }) nums ∙ ap (λ (d : ℕ). record { num = y.num; den = d }) dens

-- two fractions have the same value exactly if they have the same lowest form
pub one_lowest_form : OneLowestForm
one_lowest_form x y p q some_x some_y a b = (
  λ (e : x ≃ y).
      let p_is_y : p ≃ y = value_trans p x y some_x a.value e in
      same_lowest_terms p q a.terms b.terms (value_trans p y q some_y p_is_y (value_sym q y b.value)),
  λ (e : p ≡ q).
      let p_is_y : p ≃ y = subst (λ (r : Fraction). r ≃ y) (sym e) b.value in
      value_trans x p y a.terms.positive (value_sym p x a.value) p_is_y,
)

-- two angles are equal by `==` exactly if they have the same lowest form
pub one_lowest_form_of_angles : OneLowestFormOfAngles
one_lowest_form_of_angles x y p q a b =
    let fractions = one_lowest_form (record { num = x.num; den = x.den })
    (record { num = y.num; den = y.den }) p q x.in_range.positive y.in_range.positive a b in
    let values = same_angle-value x y in
    (λ t. fractions.0 (values.0 t), λ e. values.1 (fractions.1 e))
