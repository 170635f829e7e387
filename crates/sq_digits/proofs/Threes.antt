-- The table of three digits each, and reading it.
use Rattle.std.proofs.Common.{◌≡◌, ℕ, ◌+◌, ◌-◌, ◌*◌, ◌/◌, ◌%◌, ◌<◌, List, [], ◌∷◌, Bool, if◌then◌else◌, inl, inr, true}
use Rattle.std.proofs.Common.{false, map, take, drop, get_or, nat_lt, decimal, refl, sym, ap, ◌∙◌, arith}
use Rattle.std.proofs.lemmas.Bool.{cases_lt, le-ltb, lt-ltb}
use Rattle.std.proofs.lemmas.List.FromFn.{get_or-map-range_with_len}
use Rattle.std.specs.List.{range_with_len}
use Rattle.std.specs.Str.{IsAscii}
use Rattle.sq_digits.specs.Digits.{fixed_digits}
use Rattle.sq_digits.specs.declared.decimal.TheConstants.{THREES}
use Rattle.sq_digits.proofs.Ascii.{ascii_from}
use Rattle.sq_digits.proofs.Decimals.{decimal_one, decimal_two, decimal_three}

-- the three digits of a number
abbrev pub three_at : ℕ → List ℕ
three_at n = take 3 (drop (4 * n) THREES.now)

threes_are : map three_at (range_with_len 0 1000) ≡ map (fixed_digits 3) (range_with_len 0 1000)
threes_are = refl

pub three_are : (n : ℕ) → n < 1000 → three_at n ≡ fixed_digits 3 n
three_are n small =
    sym (get_or-map-range_with_len three_at 0 1000 n n [] small (omega arith))
    ∙ ap (λ t. get_or t n []) threes_are ∙ get_or-map-range_with_len (fixed_digits 3) 0 1000 n n [] small (omega arith)

abbrev pub one_if : Bool → ℕ
one_if true = 1
one_if false = 0

one_digit : (n : ℕ) → n < 10 → fixed_digits 1 n ≡ (48 + n) ∷ []
one_digit n small = let e : n % 10 ≡ n = omega arith in ap (λ d. (48 + d) ∷ []) e

two_digits : (n : ℕ) → n < 100 → fixed_digits 2 n ≡ (48 + n / 10) ∷ (48 + n % 10) ∷ []
two_digits n small = let e : n / 10 % 10 ≡ n / 10 = omega arith in ap (λ d. (48 + d) ∷ (48 + n % 10) ∷ []) e

three_digits : (n : ℕ) → n < 1000 → fixed_digits 3 n ≡ (48 + n / 100) ∷ (48 + n / 10 % 10) ∷ (48 + n % 10) ∷ []
three_digits n small =
    let e : n / 10 / 10 % 10 ≡ n / 100 = omega arith in ap (λ d. (48 + d) ∷ (48 + n / 10 % 10) ∷ (48 + n % 10) ∷ []) e

-- the number of leading zeros in the three digits of a number, without the last digit
abbrev pub zeros_of : ℕ → ℕ
zeros_of n = one_if (nat_lt n 100) + one_if (nat_lt n 10)

-- the digits after the leading zeros
abbrev pub leading_at : ℕ → List ℕ
leading_at n = take (3 - zeros_of n) (drop (4 * n + zeros_of n) THREES.now)

-- the digits of a number below 1000
abbrev short_digits : ℕ → List ℕ
short_digits n = if nat_lt n 10 then fixed_digits 1 n else (if nat_lt n 100 then fixed_digits 2 n else fixed_digits 3 n)

leading_are : map leading_at (range_with_len 0 1000) ≡ map short_digits (range_with_len 0 1000)
leading_are = refl

-- the short digits of a number are its decimal digits
short_decimal : (n : ℕ) → n < 1000 → short_digits n ≡ decimal n
short_decimal n small = elim (cases_lt n 10) [
  | inl one ↦ rw (lt-ltb n 10 one, decimal_one n one) (one_digit n one)
  | inr more ↦ elim (cases_lt n 100) [
    | inl two ↦ rw (le-ltb n 10 more, lt-ltb n 100 two, decimal_two n more two) (two_digits n two)
    | inr most ↦ rw (le-ltb n 10 more, le-ltb n 100 most, decimal_three n most small) (three_digits n small)
  ]
]

pub leading_is : (n : ℕ) → n < 1000 → leading_at n ≡ decimal n
leading_is n small =
    sym (get_or-map-range_with_len leading_at 0 1000 n n [] small (omega arith))
    ∙ ap (λ t. get_or t n []) leading_are ∙ get_or-map-range_with_len short_digits 0 1000 n n [] small (omega arith)
    ∙ short_decimal n small

pub IsAscii-threes : IsAscii THREES.now
IsAscii-threes = ascii_from THREES.now refl
