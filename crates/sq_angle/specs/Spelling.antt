-- The texts of angles: an optional minus, one to three digits, and optionally a point and one or more digits.
use Rattle.std.specs.Prelude.{◌≡◌, ℕ, ◌≤◌, ◌^◌, Bool, true, false, List, [], ◌∷◌, ◌++◌, length, ℤ, pos, neg_ℤ}
use Rattle.std.specs.Char.{IsAsciiDigit}
use Rattle.std.specs.List.{AllByRecursion}
use Rattle.std.specs.Str.Parse.{digits_value}
use Rattle.sq_angle.specs.Fraction.{Fraction}
use Rattle.sq_digits.specs.Characters.{decimal_point, minus_sign}

-- the parts of a text: its sign, the digits before the point and those after it
pub record Parts : Type 0 where
  pub negative : Bool
  pub whole : List ℕ
  pub decimals : List ℕ

-- there are one to three digits before the point, and only digits after it
pub record IsSpelling (p : Parts) : Type 0 where
  pub one : 1 ≤ length p.whole
  pub three : length p.whole ≤ 3
  pub whole_digits : AllByRecursion IsAsciiDigit p.whole
  pub decimal_digits : AllByRecursion IsAsciiDigit p.decimals

-- `-` if the angle is negative, and otherwise nothing
abbrev pub minus : Bool → List ℕ
minus true = minus_sign ∷ []
minus false = []

-- a point and the decimals, or nothing if there are no decimals
abbrev pub fraction : List ℕ → List ℕ
fraction [] = []
fraction (d ∷ ds) = decimal_point ∷ d ∷ ds

-- the text of these parts
abbrev pub text_of : Parts → List ℕ
text_of p = minus p.negative ++ p.whole ++ fraction p.decimals

-- the text is that of an angle with these parts
abbrev pub Spells : List ℕ → Parts → Type 0
Spells text p = IsSpelling p × (text ≡ text_of p)

-- n or -n
abbrev pub signed : Bool → ℕ → ℤ
signed true n = neg_ℤ (pos n)
signed false n = pos n

-- all digits as one number, with the sign
abbrev pub num_of : Parts → ℤ
num_of p = signed p.negative (digits_value 10 (p.whole ++ p.decimals))

-- 10 to the number of decimals
abbrev pub den_of : Parts → ℕ
den_of p = 10 ^ length p.decimals

-- the value in degrees, as a fraction
abbrev pub value_of : Parts → Fraction
value_of p = record { num = num_of p; den = den_of p }
