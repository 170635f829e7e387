-- Equality and order of angles by value.
use Rattle.std.specs.Prelude.{◌≡◌, ◌<◌, pos, ◌*ℤ◌, ◌<ℤ◌, Bool}
use Rattle.std.specs.Ordering.{int_eq, int_cmp, MatchOrdering}
use Rattle.std.specs.Cmp.{IsTotalOrder, IsEquivalence, eq_by_cmp_equiv, int_cmp_total, int_ranks, int_cmp_is}
use Rattle.std.specs.declared.cmp.Ordering.{Ordering}
use Rattle.std.specs.declared.cmp.Ordering.TheVariants.{Less, Equal}
use Rattle.std.proofs.Common.{ap, ap₂, ◌∙◌, sym, subst, arith}
use Rattle.std.proofs.lemmas.Int.{ints}
use Rattle.sq_angle.specs.declared.angle.Angle.{Angle}
use Rattle.sq_angle.specs.Fraction.{Fraction, ◌≃◌, ◌≺◌}
use Rattle.sq_angle.specs.Angle.{degrees}
use Rattle.sq_angle.specs.Scale.{scale_comm, cmp-scale, scale-lt}

-- how two fractions compare
abbrev pub fraction_cmp : Fraction → Fraction → Ordering
fraction_cmp x y = int_cmp (pos y.den *ℤ x.num) (pos x.den *ℤ y.num)

-- whether two fractions have the same value
abbrev pub same_value : Fraction → Fraction → Bool
same_value x y = int_eq (pos y.den *ℤ x.num) (pos x.den *ℤ y.num)

-- how two angles compare by value
abbrev pub angle_cmp : Angle → Angle → Ordering
angle_cmp x y = fraction_cmp (degrees x) (degrees y)

-- whether two angles have the same value
abbrev pub same_angle : Angle → Angle → Bool
same_angle x y = same_value (degrees x) (degrees y)

-- the comparison of x with z, both times y's denominator
lifted : (x y z : Fraction) → 0 < y.den
    → fraction_cmp x z ≡ int_cmp (pos z.den *ℤ (pos y.den *ℤ x.num)) (pos x.den *ℤ (pos y.den *ℤ z.num))
lifted x y z p =
    sym (cmp-scale y.den (pos z.den *ℤ x.num) (pos x.den *ℤ z.num) p)
    ∙ ap₂ int_cmp (scale_comm y.den z.den x.num) (scale_comm y.den x.den z.num)

-- fractions that compare as equal have the same value
same_from : (x y : Fraction) → fraction_cmp x y ≡ Equal → x ≃ y
same_from x y e =
    let A = pos y.den *ℤ x.num in
    let B = pos x.den *ℤ y.num in
    subst (λ (r : Ordering). MatchOrdering r (A <ℤ B) (A ≡ B) (B <ℤ A)) e (int_ranks A B)

-- if two fractions compare as less, the first is below the second
below_from : (x y : Fraction) → fraction_cmp x y ≡ Less → x ≺ y
below_from x y e =
    let A = pos y.den *ℤ x.num in
    let B = pos x.den *ℤ y.num in
    subst (λ (r : Ordering). MatchOrdering r (A <ℤ B) (A ≡ B) (B <ℤ A)) e (int_ranks A B)

-- equal angles compare in the same way with a third
pub angle_cmp_congr : (x y z : Angle) → angle_cmp x y ≡ Equal → angle_cmp x z ≡ angle_cmp y z
angle_cmp_congr x y z e =
    lifted (degrees x) (degrees y) (degrees z) y.in_range.positive
    ∙ ap₂ int_cmp (ap (λ n. pos z.den *ℤ n) (same_from (degrees x) (degrees y) e)) (scale_comm x.den y.den z.num)
    ∙ sym (lifted (degrees y) (degrees x) (degrees z) x.in_range.positive)

-- the order is transitive
pub angle_cmp_trans : (x y z : Angle) → angle_cmp x y ≡ Less → angle_cmp y z ≡ Less → angle_cmp x z ≡ Less
angle_cmp_trans x y z e f =
    let first = scale-lt z.den (pos y.den *ℤ x.num) (pos x.den *ℤ y.num) z.in_range.positive
    (below_from (degrees x) (degrees y) e) in
    let second = scale-lt x.den (pos z.den *ℤ y.num) (pos y.den *ℤ z.num) x.in_range.positive
    (below_from (degrees y) (degrees z) f) in
    let turned = scale_comm z.den x.den y.num in
    let chain : (pos z.den *ℤ (pos y.den *ℤ x.num)) <ℤ (pos x.den *ℤ (pos y.den *ℤ z.num)) = omega (arith, ints) in
    lifted (degrees x) (degrees y) (degrees z) y.in_range.positive ∙ sym (int_cmp_is _ _ Less chain)

-- the laws of `Ord`
pub angle_cmp_total : IsTotalOrder angle_cmp
angle_cmp_total = record {
  antisymm = λ x y. int_cmp_total.antisymm (pos y.den *ℤ x.num) (pos x.den *ℤ y.num);
  trans = angle_cmp_trans;
  congr = angle_cmp_congr;
}

-- the laws of `Eq`
pub same_angle_equiv : IsEquivalence same_angle
same_angle_equiv = eq_by_cmp_equiv angle_cmp_total
