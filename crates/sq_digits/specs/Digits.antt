-- Numbers as a fixed number of digits.
use Rattle.std.specs.Prelude.{ℕ, zero, suc, ℤ, pos, negsuc, ◌/◌, ◌%◌, List, [], ◌∷◌, ◌++◌, true}
use Rattle.std.specs.Fmt.{digit_glyph}
use Rattle.sq_digits.specs.Characters.{digit}

-- the lowest so many decimal digits of a number, with leading zeros
abbrev pub fixed_digits : ℕ → ℕ → List ℕ
fixed_digits zero n = []
fixed_digits (suc places) n = fixed_digits places (n / 10) ++ digit (n % 10) ∷ []

-- the lowest so many hexadecimal digits of a number in upper case, with leading zeros
abbrev pub hexadecimal : ℕ → ℕ → List ℕ
hexadecimal zero n = []
hexadecimal (suc places) n = hexadecimal places (n / 16) ++ digit_glyph true (n % 16) ∷ []

-- the sign of a number: `-` if it is negative, and otherwise nothing
abbrev pub minus_of : ℤ → List ℕ
minus_of (pos n) = []
minus_of (negsuc n) = 45 ∷ []
