-- An angle as text with seven decimals.
use Rattle.std.specs.Prelude.{◌≡◌, ◌≤◌, ℕ, ◌/◌, ◌%◌, ◌^◌, Bool, ◌&&◌, List, [], ◌∷◌, ◌++◌, pos, int_lt}
use Rattle.std.specs.Prelude.{nat_lt, decimal, if◌then◌else◌}
use Rattle.sq_angle.specs.Fraction.{Fraction, magnitude}
use Rattle.sq_angle.specs.Nearest.{IsNearest}
use Rattle.sq_digits.specs.Characters.{decimal_point, minus_sign}
use Rattle.sq_digits.specs.Digits.{fixed_digits}

-- 10^-7, the unit of the last of seven decimals
abbrev pub ten_millionth : Fraction
ten_millionth = record { num = pos 1; den = 10 ^ 7 }

-- v ten-millionths as text: `-` if the value is negative and v is not 0, the whole degrees, a point and seven digits
abbrev pub seven_places : Bool → ℕ → List ℕ
seven_places negative v =
    (if negative && nat_lt 0 v then minus_sign ∷ [] else [])
    ++ decimal (v / 10 ^ 7) ++ decimal_point ∷ [] ++ fixed_digits 7 (v % 10 ^ 7)

-- the text of x: the whole number of ten-millionths nearest to its magnitude, and x's sign
abbrev pub IsDecimal7 : Fraction → List ℕ → Type 0
IsDecimal7 x text = (v : ℕ) × IsNearest (magnitude x) ten_millionth (pos v)
    × (text ≡ seven_places (int_lt x.num (pos 0)) v)

-- a function that writes fractions with seven decimals: there is one, and no two differ at a fraction
pub record DecimalWriter : Type 0 where
  pub write : Fraction → List ℕ
  pub writes : (x : Fraction) → 1 ≤ x.den → IsDecimal7 x (write x)
