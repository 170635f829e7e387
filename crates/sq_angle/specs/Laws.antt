-- Laws of fractions and of the texts of angles, as statements.
use Rattle.std.specs.Prelude.{◌≡◌, ◌↔◌, ◌≤◌, ◌++◌, ◌⊎◌, ℕ, Bool, List, IsTrue, Result, length}
use Rattle.std.specs.declared.cmp.Ordering.TheVariants.{Less, Equal, Greater}
use Rattle.sq_angle.specs.declared.angle.Angle.{Angle}
use Rattle.sq_angle.specs.declared.read.AngleFault.{AngleFault}
use Rattle.sq_angle.specs.Fraction.{Fraction, ◌≃◌, ◌≺◌, ◌≼◌, IsWithin, opposite, whole}
use Rattle.sq_angle.specs.Angle.{degrees}
use Rattle.sq_angle.specs.Order.{same_angle, angle_cmp}
use Rattle.sq_angle.specs.Lowest.{IsLowestFormOf}
use Rattle.sq_angle.specs.Decimal.{IsDecimal7}
use Rattle.std.specs.List.{AllByRecursion}
use Rattle.sq_angle.specs.Spelling.{IsSpelling, Parts, Spells}
use Rattle.sq_angle.specs.Whole.{ExactlyOne}
use Rattle.sq_angle.specs.Reading.{IsReading}

-- two fractions have the same value exactly if they have the same form in lowest terms
abbrev pub OneLowestForm : Type 0
OneLowestForm = (x y p q : Fraction) → 1 ≤ x.den → 1 ≤ y.den → IsLowestFormOf x p → IsLowestFormOf y q → (x ≃ y)
    ↔ (p ≡ q)

-- two angles are equal exactly if they have the same form in lowest terms
abbrev pub OneLowestFormOfAngles : Type 0
OneLowestFormOfAngles = (x y : Angle) (p q : Fraction) → IsLowestFormOf (degrees x) p → IsLowestFormOf (degrees y) q
    → IsTrue (same_angle x y) ↔ (p ≡ q)

-- `==`, `<` and `>` on angles, as facts about fractions
abbrev pub OrderedByValue : Type 0
OrderedByValue =
    (x y : Angle) → (IsTrue (same_angle x y) ↔ (degrees x ≃ degrees y))
    × ((angle_cmp x y ≡ Less) ↔ (degrees x ≺ degrees y))
    × ((angle_cmp x y ≡ Equal) ↔ (degrees x ≃ degrees y)) × ((angle_cmp x y ≡ Greater) ↔ (degrees y ≺ degrees x))

-- a magnitude is at most a limit exactly if the value lies between minus the limit and the limit, both included
abbrev pub WithinAsFractions : Type 0
WithinAsFractions = (limit : ℕ) (x : Fraction) → IsWithin limit x ↔ ((opposite (whole limit) ≼ x) × (x ≼ whole limit))

-- a fraction has at most one text with seven decimals
abbrev pub OneDecimal7 : Type 0
OneDecimal7 = (x : Fraction) (s t : List ℕ) → 1 ≤ x.den → IsDecimal7 x s → IsDecimal7 x t → s ≡ t

-- a text splits into the parts of an angle in at most one way
abbrev pub OneSpelling : Type 0
OneSpelling = (text : List ℕ) (p q : Parts) → Spells text p → Spells text q → p ≡ q

-- reading a text has at most one result
abbrev pub OneReading : Type 0
OneReading = (text : List ℕ) (r s : Result Angle AngleFault) → IsReading text r → IsReading text s → r ≡ s

-- exactly one number passes a test exactly if some number passes it and any two that pass are equal
abbrev pub ExactlyOnePasses : Type 0
ExactlyOnePasses = (test : ℕ → Bool) → ExactlyOne (λ n. IsTrue (test n))
    ↔ (((n : ℕ) × IsTrue (test n)) × ((m n : ℕ) → IsTrue (test m) → IsTrue (test n) → m ≡ n))

-- parts are valid exactly if all their characters are 0 to 9, and one, two or three are before the point
abbrev pub SpellingExactly : Type 0
SpellingExactly = (p : Parts) → IsSpelling p
    ↔ (((length p.whole ≡ 1) ⊎ (length p.whole ≡ 2) ⊎ (length p.whole ≡ 3))
    × AllByRecursion (λ byte. (48 ≤ byte) × (byte ≤ 57)) (p.whole ++ p.decimals))
