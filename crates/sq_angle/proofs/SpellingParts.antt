-- The parts of a text by their characters.
use Rattle.std.proofs.Common.{◌≡◌, ◌⊎◌, ℕ, List, [], ◌∷◌, ◌++◌, ◌≤◌, inl, inr, length, arith}
use Rattle.std.proofs.lemmas.Bool.{cases_lt}
use Rattle.std.specs.List.{AllByRecursion}
use Rattle.sq_angle.specs.Spelling.{IsSpelling, Parts}

-- an ASCII digit, in numbers
abbrev IsDigit : ℕ → Type 0
IsDigit byte = (48 ≤ byte) × (byte ≤ 57)

-- a property of all elements of two lists holds for the joined list
all_of_both : (P : ℕ → Type 0) (xs ys : List ℕ) → AllByRecursion P xs → AllByRecursion P ys
    → AllByRecursion P (xs ++ ys)
all_of_both P [] ys of_xs of_ys = of_ys
all_of_both P (x ∷ xs) ys of_xs of_ys = (of_xs.0, all_of_both P xs ys of_xs.1 of_ys)

-- a property of all elements of a joined list holds for both lists
all_of_each : (P : ℕ → Type 0) (xs ys : List ℕ) → AllByRecursion P (xs ++ ys)
    → AllByRecursion P xs × AllByRecursion P ys
all_of_each P [] ys all = (tt, all)
all_of_each P (x ∷ xs) ys all = let rest = all_of_each P xs ys all.1 in ((all.0, rest.0), rest.1)

-- a number from 1 to 3 is 1, 2 or 3
one_to_three : (n : ℕ) → 1 ≤ n → n ≤ 3 → (n ≡ 1) ⊎ (n ≡ 2) ⊎ (n ≡ 3)
one_to_three n some few =
    elim (cases_lt n 2) [
      | inl one ↦ inl (omega arith)
      | inr more ↦ elim (cases_lt n 3) [
        | inl two ↦ inr (inl (omega arith))
        | inr three ↦ inr (inr (omega arith))
      ]
    ]

-- 1, 2 and 3 are from 1 to 3
from_one_to_three : (n : ℕ) → (n ≡ 1) ⊎ (n ≡ 2) ⊎ (n ≡ 3) → (1 ≤ n) × (n ≤ 3)
from_one_to_three n (inl one) = (omega arith, omega arith)
from_one_to_three n (inr (inl two)) = (omega arith, omega arith)
from_one_to_three n (inr (inr three)) = (omega arith, omega arith)

-- valid parts have one to three digits before the point, and only digits
pub to_characters : (p : Parts) → IsSpelling p
    → ((length p.whole ≡ 1) ⊎ (length p.whole ≡ 2) ⊎ (length p.whole ≡ 3))
    × AllByRecursion IsDigit (p.whole ++ p.decimals)
to_characters p spelling = (
  one_to_three (length p.whole) spelling.one spelling.three,
  all_of_both IsDigit p.whole p.decimals spelling.whole_digits spelling.decimal_digits,
)

-- parts with one to three digits before the point, and only digits, are valid
pub of_characters : (p : Parts) → (length p.whole ≡ 1) ⊎ (length p.whole ≡ 2) ⊎ (length p.whole ≡ 3)
    → AllByRecursion IsDigit (p.whole ++ p.decimals) → IsSpelling p
of_characters p few all =
    let digits = all_of_each IsDigit p.whole p.decimals all in
    let limits = from_one_to_three (length p.whole) few in
    record { one = limits.0; three = limits.1; whole_digits = digits.0; decimal_digits = digits.1 }
