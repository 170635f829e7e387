-- Orders of fractions.
use Rattle.std.proofs.Common.{◌≡◌, ℕ, ◌*◌, ◌<◌, pos, neg_ℤ, ◌*ℤ◌, ◌≤ℤ◌, ◌↔◌, arith, ap, ◌∙◌, sym, mul_comm}
use Rattle.std.proofs.lemmas.Int.{ints}
use Rattle.sq_angle.specs.Fraction.{Fraction, ◌≼◌, ◌≺◌, ◌≃◌, whole, opposite, IsWithin}
use Rattle.sq_angle.specs.Scale.{scale-neg, scale_comm, scale-le, scale-lt, le_of_scale, lt_of_scale, same_of_scale}

-- having the same value is symmetric
pub value_sym : (x y : Fraction) → x ≃ y → y ≃ x
value_sym x y e = sym e

-- having the same value is transitive
pub value_trans : (x y z : Fraction) → 0 < y.den → x ≃ y → y ≃ z → x ≃ z
value_trans x y z p e f =
    same_of_scale y.den (pos z.den *ℤ x.num) (pos x.den *ℤ z.num) p
    (scale_comm y.den z.den x.num ∙ ap (λ n. pos z.den *ℤ n) e ∙ scale_comm z.den x.den y.num
    ∙ ap (λ n. pos x.den *ℤ n) f ∙ scale_comm x.den y.den z.num)

-- a magnitude is at most `degrees` exactly if the value lies from -degrees to degrees
pub within_window : (degrees : ℕ) (x : Fraction) → IsWithin degrees x
    ↔ ((opposite (whole degrees) ≼ x) × (x ≼ whole degrees))
within_window degrees x =
    let low : pos x.den *ℤ neg_ℤ (pos degrees) ≡ neg_ℤ (pos (degrees * x.den)) =
    scale-neg x.den (pos degrees) ∙ ap (λ (n : ℕ). neg_ℤ (pos n)) (mul_comm x.den degrees) in
    let high : pos x.den *ℤ pos degrees ≡ pos (degrees * x.den) = ap pos (mul_comm x.den degrees) in (
      λ (h : IsWithin degrees x). (rw low (omega (arith, ints)), omega (arith, ints)),
      λ (h : (opposite (whole degrees) ≼ x) × (x ≼ whole degrees)).
          let from : neg_ℤ (pos (degrees * x.den)) ≤ℤ (pos 1 *ℤ x.num) = rw low at h.0 in
          let to = h.1 in
          omega (arith, ints),
    )
