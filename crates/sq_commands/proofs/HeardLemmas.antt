-- The text of a place that was heard.
use Rattle.std.proofs.Common.{◌≡◌, ◌++◌, ◌∙◌, ℕ, List, append_assoc, ap, ap₂, refl}
use Rattle.std.specs.Prelude.{codes}
use Rattle.sq_angle.specs.declared.angle.Angle.{Angle}
use Rattle.sq_angle.specs.Angle.{degrees}
use Rattle.sq_angle.specs.Decimal.{DecimalWriter, IsDecimal7}
use Rattle.sq_angle.specs.Fraction.{Fraction}
use Rattle.sq_angle.proofs.OneText.{one_decimal7}

-- an angle's decimals are those of the writer
pub written : (decimals : DecimalWriter) (angle : Angle) (x : Fraction) (part : List ℕ) → degrees angle ≡ x
    → IsDecimal7 (degrees angle) part → part ≡ decimals.write x
written decimals angle x part same is =
    one_decimal7 (degrees angle) part (decimals.write (degrees angle)) angle.in_range.positive is
    (decimals.writes (degrees angle) angle.in_range.positive)
    ∙ ap decimals.write same

joined : (old word address a b : List ℕ)
    → (((old ++ (word ++ address)) ++ codes " ") ++ a) ++ codes " " ++ b ≡ old ++ (word ++ address ++ codes " " ++ (a ++ codes " " ++ b))
joined old word address a b = simp append_assoc refl

-- a word, an address and two coordinates, pushed one after the other
pub pushed : (old word address p q a b t0 t1 t2 t3 t4 : List ℕ) → t0 ≡ old ++ (word ++ address) → t1 ≡ t0 ++ codes " "
    → t2 ≡ t1 ++ p → t3 ≡ t2 ++ codes " "
    → t4 ≡ t3 ++ q → p ≡ a → q ≡ b → t4 ≡ old ++ (word ++ address ++ codes " " ++ (a ++ codes " " ++ b))
pushed old word address p q a b t0 t1 t2 t3 t4 e0 e1 e2 e3 e4 x y =
    let s1 : t1 ≡ (old ++ (word ++ address)) ++ codes " " = e1 ∙ ap (λ l. l ++ codes " ") e0 in
    let s2 : t2 ≡ ((old ++ (word ++ address)) ++ codes " ") ++ p = e2 ∙ ap (λ l. l ++ p) s1 in
    let s3 : t3 ≡ (((old ++ (word ++ address)) ++ codes " ") ++ p) ++ codes " " = e3 ∙ ap (λ l. l ++ codes " ") s2 in
    let s4 : t4 ≡ ((((old ++ (word ++ address)) ++ codes " ") ++ p) ++ codes " ") ++ q = e4 ∙ ap (λ l. l ++ q) s3 in
    s4 ∙ joined old word address p q ∙ ap₂ (λ (l m : List ℕ). old ++ (word ++ address ++ codes " " ++ (l ++ codes " " ++ m))) x y
