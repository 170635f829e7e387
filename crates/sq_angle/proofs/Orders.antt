-- The comparisons of angles, as facts about fractions.
use Rattle.std.proofs.Common.{◌≡◌, ◌↔◌, IsTrue, pos, ◌*ℤ◌, ◌<ℤ◌, subst, sym, rules}
use Rattle.std.proofs.lemmas.Bool.Decides.{Decides-int_eq}
use Rattle.std.specs.Ordering.{MatchOrdering}
use Rattle.std.specs.declared.cmp.Ordering.{Ordering}
use Rattle.std.specs.declared.cmp.Ordering.TheVariants.{Less, Equal, Greater}
use Rattle.std.specs.Cmp.{int_ranks, int_cmp_is}
use Rattle.sq_angle.specs.declared.angle.Angle.{Angle}
use Rattle.sq_angle.specs.Fraction.{Fraction, ◌≃◌, ◌≺◌}
use Rattle.sq_angle.specs.Angle.{degrees}
use Rattle.sq_angle.specs.Order.{same_angle, fraction_cmp}
use Rattle.sq_angle.specs.Laws.{OrderedByValue}

-- the result of comparing two fractions, as a fact
ranked : (x y : Fraction) (o : Ordering) → fraction_cmp x y ≡ o → MatchOrdering o (x ≺ y) (x ≃ y) (y ≺ x)
ranked x y o e =
    let A = pos y.den *ℤ x.num in
    let B = pos x.den *ℤ y.num in
    subst (λ (r : Ordering). MatchOrdering r (A <ℤ B) (A ≡ B) (B <ℤ A)) e (int_ranks A B)

-- `==` tests whether the fractions have the same value
pub same_angle-value : (x y : Angle) → IsTrue (same_angle x y) ↔ (degrees x ≃ degrees y)
same_angle-value x y = search (rules, Decides-int_eq (pos y.den *ℤ x.num) (pos x.den *ℤ y.num))

-- `==`, `<` and `>` test how the fractions compare
pub ordered_by_value : OrderedByValue
ordered_by_value x y = (
  same_angle-value x y,
  (ranked (degrees x) (degrees y) Less, λ h. sym (int_cmp_is _ _ Less h)),
  (ranked (degrees x) (degrees y) Equal, λ h. sym (int_cmp_is _ _ Equal h)),
  (ranked (degrees x) (degrees y) Greater, λ h. sym (int_cmp_is _ _ Greater h)),
)
