-- A fraction has a text with seven decimals.
use Rattle.std.proofs.Common.{◌≡◌, ◌+◌, ◌*◌, ◌≤◌, ◌⊎◌, inl, inr, ℕ, ℤ, List, [], pos, neg_ℤ, ◌*ℤ◌, ◌<ℤ◌, ◌+ℤ◌, refl}
use Rattle.std.proofs.Common.{subst, int_lt, arith, unsigned_abs}
use Rattle.std.proofs.Math.IntN.{negsuc}
use Rattle.std.proofs.lemmas.Bool.{cases_lt}
use Rattle.std.proofs.lemmas.Int.{ints}
use Rattle.sq_angle.specs.Fraction.{Fraction, magnitude}
use Rattle.sq_angle.specs.Decimal.{DecimalWriter, IsDecimal7, seven_places, ten_millionth}
use Rattle.sq_angle.specs.Nearest.{IsNearest}
use Rattle.sq_angle.specs.Scale.{scale-neg}
use Rattle.sq_angle.proofs.Rounding.{one_nearest}

-- the number of steps nearest to a magnitude is not negative
not_below : (x : Fraction) (v : ℕ) → 1 ≤ x.den → IsNearest (magnitude x) ten_millionth (negsuc v) → ⊥
not_below x v some r =
    let k = 2 * v + 1 in
    let steps : pos 1 *ℤ ((pos 2 *ℤ negsuc v) +ℤ pos 1) ≡ neg_ℤ (pos k) = omega (arith, ints) in
    let below : (pos 20000000 *ℤ pos (unsigned_abs x.num)) <ℤ (pos x.den *ℤ neg_ℤ (pos k)) =
    subst (λ (z : ℤ). (pos 20000000 *ℤ pos (unsigned_abs x.num)) <ℤ (pos x.den *ℤ z)) steps r.below in
    absurd (omega (arith, ints, below, scale-neg x.den (pos k)))

some_decimal7 : (x : Fraction) → 1 ≤ x.den → (text : List ℕ) × IsDecimal7 x text
some_decimal7 x some = let one = one_nearest (magnitude x) 1 10000000 some (omega arith) in by one.0 one.1
  where
    by : (a : ℤ) → IsNearest (magnitude x) ten_millionth a → (text : List ℕ) × IsDecimal7 x text
    by (pos v) is = (seven_places (int_lt x.num (pos 0)) v, (v, is, refl))
    by (negsuc v) is = absurd (not_below x v some is)

-- the text of a fraction with a positive denominator, and otherwise an empty text
written : (x : Fraction) → (1 ≤ x.den) ⊎ (¬ (1 ≤ x.den)) → List ℕ
written x (inl some) = (some_decimal7 x some).0
written x (inr none) = []

written_is : (x : Fraction) (known : (1 ≤ x.den) ⊎ (¬ (1 ≤ x.den))) → 1 ≤ x.den → IsDecimal7 x (written x known)
unfolding written
written_is x (inl some) positive = (some_decimal7 x some).1
written_is x (inr none) positive = absurd (none positive)

has_den : (x : Fraction) → (1 ≤ x.den) ⊎ (¬ (1 ≤ x.den))
has_den x = elim (cases_lt 0 x.den) [
  | inl some ↦ inl (omega (arith, some))
  | inr none ↦ inr (λ positive. absurd (omega (arith, none, positive)))
]

pub writer : DecimalWriter
writer = record { write = λ x. written x (has_den x); writes = λ x positive. written_is x (has_den x) positive }
