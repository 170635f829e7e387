-- The decimals of numbers of up to three digits.
use Rattle.std.proofs.Common.{◌≡◌, ℕ, ◌+◌, ◌/◌, ◌%◌, ◌<◌, ◌≤◌, ◌^◌, [], ◌∷◌, ◌++◌, decimal, arith, ap, ap₂, ◌∙◌, refl}
use Rattle.std.proofs.Common.{append_assoc}
use Rattle.std.proofs.lemmas.Fmt.{decimal_digit, decimal_step}
use Rattle.std.proofs.Common.{ℤ, pos, negsuc, unsigned_abs, List}
use Rattle.std.specs.Fmt.{signed_decimal}
use Rattle.sq_digits.specs.Digits.{fixed_digits, minus_of}

-- a number of one digit
pub decimal_one : (n : ℕ) → n < 10 → decimal n ≡ (48 + n) ∷ []
decimal_one n h = decimal_digit n h

-- a number of two digits
pub decimal_two : (n : ℕ) → 10 ≤ n → n < 100 → decimal n ≡ (48 + n / 10) ∷ (48 + n % 10) ∷ []
decimal_two n h k =
    decimal_step n h (omega arith) ∙ ap (λ ds. ds ++ (48 + n % 10) ∷ []) (decimal_digit (n / 10) (omega arith))

-- a number of three digits
pub decimal_three : (n : ℕ) → 100 ≤ n → n < 1000 → decimal n ≡ (48 + n / 100) ∷ (48 + n / 10 % 10) ∷ (48 + n % 10) ∷ []
decimal_three n h k =
    let tens : 10 ≤ n / 10 = omega arith in
    let tens' : n / 10 < 100 = omega arith in
    let first : n / 10 / 10 ≡ n / 100 = omega arith in
    decimal_step n (omega arith) (omega arith)
    ∙ ap (λ ds. ds ++ (48 + n % 10) ∷ []) (decimal_two (n / 10) tens tens')
    ∙ ap (λ q. (48 + q) ∷ (48 + n / 10 % 10) ∷ (48 + n % 10) ∷ []) first

-- the lowest three digits of a number depend only on its remainder by 1000
three_of : (n : ℕ) → fixed_digits 3 (n % 1000) ≡ fixed_digits 3 n
three_of n =
    let a : n % 1000 / 10 / 10 % 10 ≡ n / 10 / 10 % 10 = omega arith in
    let b : n % 1000 / 10 % 10 ≡ n / 10 % 10 = omega arith in
    let c : n % 1000 % 10 ≡ n % 10 = omega arith in
    ap (λ d. (48 + d) ∷ (48 + n % 1000 / 10 % 10) ∷ (48 + n % 1000 % 10) ∷ []) a
    ∙ ap₂ (λ d e. (48 + n / 10 / 10 % 10) ∷ (48 + d) ∷ (48 + e) ∷ []) b c

-- a number of four digits or more, and its last three
pub decimal_thousands : (n : ℕ) → 1000 ≤ n → n < 2 ^ 64 → decimal n ≡ decimal (n / 1000) ++ fixed_digits 3 (n % 1000)
decimal_thousands n long fits =
    let a : n / 10 / 10 / 10 ≡ n / 1000 = omega arith in
    rw (
      decimal_step n (omega arith) fits,
      decimal_step (n / 10) (omega arith) (omega arith),
      decimal_step (n / 10 / 10) (omega arith) (omega arith),
      a,
      three_of n,
    ) (simp append_assoc refl)

-- a number of seven digits or more is its millions and two groups of three digits
pub decimal_millions : (n : ℕ) → 1000000 ≤ n → n < 2 ^ 64
    → decimal n ≡ decimal (n / 1000000) ++ (fixed_digits 3 (n / 1000 % 1000) ++ fixed_digits 3 (n % 1000))
decimal_millions n long fits =
    let first : n / 1000 / 1000 ≡ n / 1000000 = omega arith in
    rw (
      decimal_thousands n (omega arith) fits,
      decimal_thousands (n / 1000) (omega arith) (omega arith),
      first,
    ) (simp append_assoc refl)

-- a signed number is its sign and the digits of its magnitude
signed_by_minus : (z : ℤ) → minus_of z ++ decimal (unsigned_abs z) ≡ signed_decimal z
signed_by_minus (pos n) = refl
signed_by_minus (negsuc n) = refl

-- appending the sign and then the digits of the magnitude appends the signed number
pub signed_pushed : (old signed new : List ℕ) (z n : ℤ) (m : ℕ) → z ≡ n → signed ≡ old ++ minus_of z
    → m ≡ unsigned_abs z → new ≡ signed ++ decimal m → new ≡ old ++ signed_decimal n
signed_pushed old signed new z n m same front magnitude back =
    back ∙ ap₂ (λ t k. t ++ decimal k) front magnitude ∙ append_assoc old (minus_of z) (decimal (unsigned_abs z))
    ∙ ap (λ t. old ++ t) (signed_by_minus z ∙ ap signed_decimal same)
