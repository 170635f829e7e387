-- The digits at the front of a text, as words read them.
use Rattle.std.proofs.Common.{◌≡◌, ℕ, ◌+◌, ◌-◌, ◌*◌, ◌%◌, ◌<◌, ◌≤◌, ◌^◌, List, [], ◌∷◌, ◌++◌, zero, suc}
use Rattle.std.proofs.Common.{length, take, drop, map, replicate, bit_and}
use Rattle.std.proofs.Common.{refl, sym, ap, ap₂, ◌∙◌, subst, arith, mul-le-mul_right}
use Rattle.std.proofs.Math.Nat.{pow-suc, pow-zero}
use Rattle.std.proofs.lemmas.Nat.{mod_low, pow-add, pow_pos}
use Rattle.std.proofs.lemmas.List.{drop-take, length-append, length-drop, length-map, length-take-le}
use Rattle.std.proofs.lemmas.List.{take-append-drop, take-take}
use Rattle.std.proofs.lemmas.Simd.{length-replicate}
use Rattle.std.proofs.lemmas.Str.{digit_value_digit}
use Rattle.std.proofs.lemmas.Int.Digits.{digits_value_is, number_lt}
use Rattle.std.specs.Char.{IsAsciiDigit, digit_value}
use Rattle.std.specs.Int.Digits.{number_from_digits, AllBelowBase}
use Rattle.std.specs.List.{AllByRecursion}
use Rattle.std.specs.Simd.Lanes.{Each1, number_l}
use Rattle.std.specs.Str.Parse.{digits_value, digits_value_after}
use Rattle.sq_text.proofs.WordDigits.{masked, word_of, word_is}

-- ---- a shift of bytes

number_append : (xs ys : List ℕ) → number_l 256 (xs ++ ys) ≡ number_l 256 xs + 256 ^ length xs * number_l 256 ys
number_append [] ys = omega (arith, ap (λ n. n * number_l 256 ys) (pow-zero 256))
number_append (x ∷ xs) ys =
    let more = ap (λ n. n * number_l 256 ys) (pow-suc 256 (length xs)) in
    omega (arith, number_append xs ys, more)

number_below : (xs : List ℕ) → Each1 (λ x. x < 256) xs → number_l 256 xs < 256 ^ length xs
number_below [] each = omega (arith, pow-zero 256)
number_below (x ∷ xs) each = omega (arith, each.0, number_below xs each.1, pow-suc 256 (length xs))

-- zeros before bytes
number_zeros : (k : ℕ) (xs : List ℕ) → number_l 256 (replicate k 0 ++ xs) ≡ number_l 256 xs * 256 ^ k
number_zeros zero xs = omega (arith, ap (λ n. number_l 256 xs * n) (pow-zero 256))
number_zeros (suc k) xs =
    omega (arith, number_zeros k xs, ap (λ n. number_l 256 xs * n) (pow-suc 256 k))

power : (k : ℕ) → 2 ^ (8 * k) ≡ 256 ^ k
power zero = refl
power (suc k) =
    let more : 8 * suc k ≡ 8 * k + 8 = omega arith in
    ap (λ n. 2 ^ n) more ∙ pow-add 2 (8 * k) 8 ∙ omega (arith, power k, pow-suc 256 k)

-- a shift drops the last k of eight bytes and puts k zeros before the others
shifted : (xs ys : List ℕ) (k : ℕ) → length xs + k ≡ 8 → Each1 (λ x. x < 256) xs
    → number_l 256 (xs ++ ys) * 2 ^ (8 * k) % 2 ^ 64 ≡ number_l 256 (replicate k 0 ++ xs)
shifted xs ys k whole each =
    let front : ℕ = number_l 256 xs in
    let behind : ℕ = number_l 256 ys in
    let places : ℕ = 256 ^ length xs in
    let shift : ℕ = 256 ^ k in
    let word : places * shift ≡ 2 ^ 64 = sym (pow-add 256 (length xs) k) ∙ ap (λ n. 256 ^ n) whole in
    let some : 0 < shift = subst (λ n. 0 < n) (power k) (pow_pos (8 * k)) in
    let more : (front + 1) * shift ≤ places * shift = mul-le-mul_right shift (omega (arith, number_below xs each)) in
    let below : front * shift < 2 ^ 64 = omega (arith, some, more, word) in
    let moved : (front + places * behind) * shift ≡ behind * 2 ^ 64 + front * shift =
    omega (arith, ap (λ n. n * behind) word) in
    ap₂ (λ m n. m * n % 2 ^ 64) (number_append xs ys) (power k) ∙ ap (λ n. n % 2 ^ 64) moved
    ∙ mod_low behind 64 (front * shift) below ∙ sym (number_zeros k xs)

-- ---- the values of digits, with zeros before them

abbrev pub values : ℕ → List ℕ → List ℕ
values k digits = replicate k 0 ++ map digit_value digits

pub values_long : (k : ℕ) (digits : List ℕ) → length digits + k ≡ 8 → length (values k digits) ≡ 8
values_long k digits whole =
    let zeros : length (replicate {A = ℕ} k 0) ≡ k = length-replicate {A = ℕ} k 0 in
    omega (arith, whole, length-append (replicate k 0) (map digit_value digits), zeros, length-map digits digit_value)

pub values_small : (k : ℕ) (digits : List ℕ) → AllByRecursion IsAsciiDigit digits → AllBelowBase 10 (values k digits)
values_small zero [] all = tt
values_small zero (d ∷ ds) all = (omega (arith, all.0, digit_value_digit d all.0), values_small zero ds all.1)
values_small (suc k) ds all = (omega arith, values_small k ds all)

pub values_number : (k : ℕ) (digits : List ℕ) → number_from_digits 10 (values k digits) ≡ digits_value 10 digits
values_number zero ds = sym (digits_value_is 10 ds)
values_number (suc k) ds = values_number k ds

pub value_small : (digits : List ℕ) → AllByRecursion IsAsciiDigit digits → digits_value 10 digits < 10 ^ length digits
value_small ds all =
    let below = number_lt 10 (values 0 ds) (values_small 0 ds all) in
    omega (arith, below, values_number 0 ds, ap (λ n. 10 ^ n) (length-map ds digit_value))

-- a mask takes digits to their values and keeps zeros
low_bits : (k : ℕ) (digits : List ℕ) → AllByRecursion IsAsciiDigit digits
    → map (λ x. x % 16) (replicate k 0 ++ digits) ≡ values k digits
low_bits zero [] all = refl
low_bits zero (d ∷ ds) all =
    let value : d % 16 ≡ digit_value d = omega (arith, all.0, digit_value_digit d all.0) in
    ap₂ (λ x (l : List ℕ). x ∷ l) value (low_bits zero ds all.1)
low_bits (suc k) ds all = ap (λ (l : List ℕ). 0 ∷ l) (low_bits k ds all)

bytes_of_digits : (k : ℕ) (digits : List ℕ) → AllByRecursion IsAsciiDigit digits
    → Each1 (λ x. x < 256) (replicate k 0 ++ digits)
bytes_of_digits zero [] all = tt
bytes_of_digits zero (d ∷ ds) all = (omega (arith, all.0), bytes_of_digits zero ds all.1)
bytes_of_digits (suc k) ds all = (omega arith, bytes_of_digits k ds all)

-- the word of the first digits of a text, as the code computes it
pub values_word : (text : List ℕ) (count : ℕ) → count ≤ 8 → 8 ≤ length text
    → AllByRecursion IsAsciiDigit (take count text)
    → bit_and (word_of (take 8 text) * 2 ^ (8 * (8 - count)) % 2 ^ 64) 1085102592571150095
    ≡ word_of (values (8 - count) (take count text))
values_word text count few room all =
    let digits : List ℕ = take count text in
    let k : ℕ = 8 - count in
    let lanes : List ℕ = replicate k 0 ++ digits in
    let behind : List ℕ = drop count (take 8 text) in
    let long : length digits + k ≡ 8 = omega (arith, few, room, length-take-le count text (omega (arith, few, room))) in
    let zeros : length (replicate {A = ℕ} k 0) ≡ k = length-replicate {A = ℕ} k 0 in
    let eight : length lanes ≡ 8 = omega (arith, long, zeros, length-append (replicate k 0) digits) in
    let whole : take 8 text ≡ digits ++ behind =
    sym (take-append-drop count (take 8 text)) ∙ ap (λ l. l ++ behind) (take-take count 8 text few) in
    let word : word_of (take 8 text) ≡ number_l 256 (digits ++ behind) =
    word_is (take 8 text) (length-take-le 8 text room) ∙ ap (number_l 256) whole in
    ap (λ n. bit_and (n * 2 ^ (8 * k) % 2 ^ 64) 1085102592571150095) word
    ∙ ap (λ n. bit_and n 1085102592571150095) (shifted digits behind k long (bytes_of_digits zero digits all))
    ∙ ap (λ n. bit_and (number_l 256 lanes) (number_l 256 (replicate n 15))) (sym eight)
    ∙ masked 8 4 (omega arith) lanes (bytes_of_digits k digits all)
    ∙ ap (number_l 256) (low_bits k digits all) ∙ sym (word_is (values k digits) (values_long k digits long))

-- ---- digits behind digits

value_from : (n : ℕ) (ds : List ℕ) → digits_value_after 10 n ds ≡ n * 10 ^ length ds + digits_value 10 ds
value_from n [] = omega arith
value_from n (d ∷ ds) =
    let first : ℕ = digit_value d in
    let more = ap (λ m. n * m) (pow-suc 10 (length ds)) in
    omega (arith, value_from (n * 10 + first) ds, value_from (0 * 10 + first) ds, more)

value_append : (n : ℕ) (xs ys : List ℕ)
    → digits_value_after 10 n (xs ++ ys) ≡ digits_value_after 10 (digits_value_after 10 n xs) ys
value_append n [] ys = refl
value_append n (x ∷ xs) ys = value_append (n * 10 + digit_value x) xs ys

pub digits_split : (xs ys : List ℕ)
    → digits_value 10 (xs ++ ys) ≡ digits_value 10 xs * 10 ^ length ys + digits_value 10 ys
digits_split xs ys = value_append 0 xs ys ∙ value_from (digits_value 10 xs) ys

pub all_behind : (xs ys : List ℕ) → AllByRecursion IsAsciiDigit (xs ++ ys) → AllByRecursion IsAsciiDigit ys
all_behind [] ys all = all
all_behind (x ∷ xs) ys all = all_behind xs ys all.1

pub front_split : (text : List ℕ) (count : ℕ) → 8 ≤ count
    → take count text ≡ take (count - 8) text ++ take 8 (drop (count - 8) text)
front_split text count some =
    let first : ℕ = count - 8 in
    let whole : first + 8 ≡ count = omega (arith, some) in
    sym (take-append-drop first (take count text))
    ∙ ap₂ (λ (a b : List ℕ). a ++ b) (take-take first count text (omega arith))
    (ap (λ n. drop first (take n text)) (sym whole) ∙ drop-take first 8 text)

pub front_value : (text : List ℕ) (count : ℕ) → 8 ≤ count → count ≤ length text
    → digits_value 10 (take (count - 8) text) * 10 ^ 8 + digits_value 10 (take 8 (drop (count - 8) text))
    ≡ digits_value 10 (take count text)
front_value text count some within =
    let first : ℕ = count - 8 in
    let behind : List ℕ = take 8 (drop first text) in
    let room : 8 ≤ length (drop first text) = omega (arith, some, within, length-drop first text) in
    let long : length behind ≡ 8 = length-take-le 8 (drop first text) room in
    sym (ap (digits_value 10) (front_split text count some) ∙ digits_split (take first text) behind
    ∙ ap (λ n. digits_value 10 (take first text) * 10 ^ n + digits_value 10 behind) long)
