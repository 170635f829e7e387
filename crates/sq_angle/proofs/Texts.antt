-- The steps of reading an angle from a text, and the number of its digits.
use Rattle.std.proofs.Common.{◌≡◌, ◌≢◌, ℕ, zero, suc, ◌+◌, ◌*◌, ◌^◌, ◌<◌, ◌≤◌, List, [], ◌∷◌, ◌++◌, length, get_or}
use Rattle.std.proofs.Common.{Result, Ok, Err, ℤ, refl, ap, ap₂, ◌∙◌, sym, arith, rules, mul-le-mul, add-mul}
use Rattle.std.proofs.Math.Nat.{pow-le-pow_right, pow-succ'}
use Rattle.std.specs.Char.{IsAsciiDigit, digit_value}
use Rattle.std.specs.List.{AllByRecursion}
use Rattle.std.specs.Result.{result_unwrap_or, OkIff}
use Rattle.std.specs.Str.Parse.{digits_value, digits_value_after, ParsesUnsigned}
use Rattle.std.proofs.lemmas.Str.Parse.{IsNumeralModel, numerals_by_value, parse_digits}
use Rattle.std.proofs.lemmas.Int.Digits.{digits_value-lt}
use Rattle.sq_angle.specs.Spelling.{fraction, Parts, signed, num_of, den_of, value_of}
use Rattle.sq_angle.specs.Points.{HasNoPoint}
use Rattle.sq_angle.specs.Fraction.{IsWithin}
use Rattle.sq_angle.specs.Bounds.{IsAngle}

-- the base of decimals is positive
ten_positive : zero < 10
ten_positive = omega arith

-- if there is no point at any index, no character is a point
pub no_point_at : (xs : List ℕ) → ((i : ℕ) → i < length xs → get_or xs i 0 ≢ 46) → HasNoPoint xs
no_point_at [] h = tt
no_point_at (x ∷ xs) h = (h 0 (omega arith), no_point_at xs (λ i l. h (suc i) (omega arith)))

-- a point comes before decimals
pub fraction_some : (ds : List ℕ) → 0 < length ds → fraction ds ≡ 46 ∷ ds
fraction_some [] h = absurd (omega arith)
fraction_some (d ∷ ds) h = refl

-- texts of digits, and their numbers
digits_model : IsNumeralModel (λ ds. AllByRecursion IsAsciiDigit ds) (digits_value 10)
digits_model = numerals_by_value (λ ds. AllByRecursion IsAsciiDigit ds) (search rules)

-- the number of n digits is below 10^n
pub digits_small : (ds : List ℕ) → AllByRecursion IsAsciiDigit ds → digits_value 10 ds < 10 ^ length ds
digits_small ds a = digits_value-lt 10 ds (digits_model.to ds a)

-- `parse` reads up to twelve digits, and the default 0 is used if there are none
pub parsed_digits : {E : Type 0} → (ds : List ℕ) (r : Result ℕ E) → ParsesUnsigned 64 10 ds r
    → AllByRecursion IsAsciiDigit ds → length ds ≤ 12 → result_unwrap_or r 0 ≡ digits_value 10 ds
parsed_digits ds r h a short =
    let small : digits_value 10 ds < 2 ^ 64 = omega (arith, digits_small ds a, pow-le-pow_right ten_positive short) in
    by ds r (parse_digits digits_model 64 ds r h a) small
  where
    by : {E : Type 0} → (ds : List ℕ) (r : Result ℕ E)
        → OkIff r ((0 < length ds) × (digits_value 10 ds < 2 ^ 64)) (digits_value 10 ds) → digits_value 10 ds < 2 ^ 64
        → result_unwrap_or r 0 ≡ digits_value 10 ds
    by ds (Ok n) h small = h.1
    by [] (Err e) h small = refl
    by (d ∷ ds) (Err e) h small = absurd (h (omega arith, small))

-- digits after a number n give n times a power of ten plus their own number
value_after : (n : ℕ) (ds : List ℕ) → digits_value_after 10 n ds ≡ n * 10 ^ length ds + digits_value 10 ds
value_after n [] = omega arith
value_after n (d ∷ ds) =
    let v = digit_value d in
    let power = pow-succ' 10 (length ds) in
    let spread = add-mul (n * 10) v (10 ^ length ds) in
    omega (arith, value_after (n * 10 + v) ds, value_after (0 * 10 + v) ds, ap (λ m. n * m) power)

-- reading two lists of digits continues from the number of the first list
append_after : (n : ℕ) (xs ys : List ℕ)
    → digits_value_after 10 n (xs ++ ys) ≡ digits_value_after 10 (digits_value_after 10 n xs) ys
append_after n [] ys = refl
append_after n (x ∷ xs) ys = append_after (n * 10 + digit_value x) xs ys

-- the number of two joined texts of digits
pub digits_value-append : (xs ys : List ℕ)
    → digits_value 10 (xs ++ ys) ≡ digits_value 10 xs * 10 ^ length ys + digits_value 10 ys
digits_value-append xs ys = append_after 0 xs ys ∙ value_after (digits_value 10 xs) ys

-- the magnitude of an angle, as its digits give it, is small
pub magnitude_small : (a b d m n : ℕ) → m ≤ 3 → n ≤ 12 → a < 10 ^ m → d ≡ 10 ^ n → b < 10 ^ n
    → (a * d < 10 ^ 16) × (a * d + b < 10 ^ 16)
magnitude_small a b d m n h k p e q =
    let power_m : 10 ^ m ≤ 10 ^ 3 = pow-le-pow_right ten_positive h in
    let power_n : 10 ^ n ≤ 10 ^ 12 = pow-le-pow_right ten_positive k in
    let a_small : a ≤ 1000 = omega arith in
    let d_small : d ≤ 1000000000000 = omega arith in
    let product : a * d ≤ 1000 * 1000000000000 = mul-le-mul a_small d_small in
    (omega arith, omega arith)

-- the fraction of an angle that was read is that of its parts
pub value_read : (p : Parts) (a b d : ℕ) (z : ℤ) → a ≡ digits_value 10 p.whole → b ≡ digits_value 10 p.decimals
    → d ≡ 10 ^ length p.decimals → z ≡ signed p.negative (a * d + b)
    → (z ≡ num_of p) × (d ≡ den_of p)
value_read p a b d z e f g h =
    let magnitude : a * d + b ≡ digits_value 10 (p.whole ++ p.decimals) =
    ap₂ (λ m n. m + n) (ap₂ (λ m n. m * n) e g) f ∙ sym (digits_value-append p.whole p.decimals) in
    (h ∙ ap (λ n. signed p.negative n) magnitude, g)

-- a list of length 0 is empty
pub nothing : (ds : List ℕ) → length ds ≡ 0 → ds ≡ []
nothing [] e = refl
nothing (d ∷ ds) e = absurd (omega arith)

-- a power of ten is positive
pub power_positive : (n : ℕ) → 0 < 10 ^ n
power_positive n = let low : 0 ≤ n = omega arith in let one : 10 ^ 0 ≤ 10 ^ n = pow-le-pow_right ten_positive low in
    omega arith

-- 16 decimal digits fit 64 bits
pub less_than_64 : (n : ℕ) → n < 10 ^ 16 → n < 2 ^ 64
less_than_64 n h = omega arith

-- a number within 360 degrees with at most twelve decimals is an angle
pub angle_within : (p : Parts) → length p.decimals ≤ 12 → IsWithin 360 (value_of p) → IsAngle (num_of p) (den_of p)
angle_within p h w =
    let some = power_positive (length p.decimals) in
    let most : 10 ^ length p.decimals ≤ 10 ^ 12 = pow-le-pow_right ten_positive h in
    record { positive = omega arith; at_most = most; within = w }
