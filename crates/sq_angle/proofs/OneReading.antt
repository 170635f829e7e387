-- Reading a text has at most one result.
use Rattle.std.proofs.Common.{◌≡◌, length, Ok, Err, refl, ap, ◌∙◌, sym, subst, arith}
use Rattle.std.proofs.Props.{props}
use mathlib.Core.HLevel.{is_prop→PathP}
use Rattle.sq_angle.specs.declared.angle.Angle.{Angle}
use Rattle.sq_angle.specs.declared.read.AngleFault.TheVariants.{NotANumber, TooManyDecimals, OutOfRange}
use Rattle.sq_angle.specs.Fraction.{Fraction, IsWithin}
use Rattle.sq_angle.specs.Bounds.{IsAngle}
use Rattle.sq_angle.specs.Angle.{degrees}
use Rattle.sq_angle.specs.Spelling.{Parts, value_of}
use Rattle.sq_angle.specs.Laws.{OneReading}
use Rattle.sq_angle.proofs.OneSpelling.{one_spelling}

-- angles with the same numerator and the same denominator are equal
pub one_angle : (a b : Angle) → degrees a ≡ degrees b → a ≡ b
one_angle a b e =
    let num : a.num ≡ b.num = ap (λ (x : Fraction). x.num) e in
    let den : a.den ≡ b.den = ap (λ (x : Fraction). x.den) e in
    λ i. record {
      num = num i;
      den = den i;
      in_range = is_prop→PathP (λ j. IsAngle (num j) (den j)) (λ j. hlevel props) a.in_range b.in_range i;
    }

-- parts that have the value of an angle are within 360 degrees
within : (a : Angle) (p : Parts) → degrees a ≡ value_of p → IsWithin 360 (value_of p)
within a p e = subst (λ (x : Fraction). IsWithin 360 x) e a.in_range.within

-- two results of reading a text are equal
pub one_reading : OneReading
one_reading text (Ok a) (Ok b) (p, s, _, e) (q, t, _, f) =
    ap Ok (one_angle a b (e ∙ ap value_of (one_spelling text p q s t) ∙ sym f))
one_reading text (Ok a) (Err NotANumber) (p, s, _, e) h = absurd (h p s)
one_reading text (Ok a) (Err TooManyDecimals) (p, s, few, e) (q, t, many) =
    let same = ap (λ (r : Parts). length r.decimals) (one_spelling text p q s t) in absurd (omega arith)
one_reading text (Ok a) (Err OutOfRange) (p, s, _, e) (q, t, _, out) =
    absurd (out (subst (λ (r : Parts). IsWithin 360 (value_of r)) (one_spelling text p q s t) (within a p e)))
one_reading text (Err NotANumber) (Ok b) h (q, t, _, f) = absurd (h q t)
one_reading text (Err NotANumber) (Err NotANumber) h k = refl
one_reading text (Err NotANumber) (Err TooManyDecimals) h (q, t, _) = absurd (h q t)
one_reading text (Err NotANumber) (Err OutOfRange) h (q, t, _, _) = absurd (h q t)
one_reading text (Err TooManyDecimals) (Ok b) (p, s, many) (q, t, few, f) =
    let same = ap (λ (r : Parts). length r.decimals) (one_spelling text p q s t) in absurd (omega arith)
one_reading text (Err TooManyDecimals) (Err NotANumber) (p, s, _) k = absurd (k p s)
one_reading text (Err TooManyDecimals) (Err TooManyDecimals) h k = refl
one_reading text (Err TooManyDecimals) (Err OutOfRange) (p, s, many) (q, t, few, _) =
    let same = ap (λ (r : Parts). length r.decimals) (one_spelling text p q s t) in absurd (omega arith)
one_reading text (Err OutOfRange) (Ok b) (p, s, _, out) (q, t, _, f) =
    absurd (out (subst (λ (r : Parts). IsWithin 360 (value_of r)) (one_spelling text q p t s) (within b q f)))
one_reading text (Err OutOfRange) (Err NotANumber) (p, s, _, _) k = absurd (k p s)
one_reading text (Err OutOfRange) (Err TooManyDecimals) (p, s, few, _) (q, t, many) =
    let same = ap (λ (r : Parts). length r.decimals) (one_spelling text p q s t) in absurd (omega arith)
one_reading text (Err OutOfRange) (Err OutOfRange) h k = refl
