-- Bytes as the digits of a number.
use Rattle.std.proofs.Common.{◌≡◌, ℕ, ◌+◌, ◌*◌, ◌/◌, ◌%◌, ◌<◌, ◌≤◌, ◌^◌, List, length, take, get_or, sym, ap, ap₂, ◌∙◌}
use Rattle.std.proofs.Common.{arith, [], ◌∷◌, ◌++◌, refl, zero, suc}
use Rattle.std.proofs.lemmas.Nat.{pow-add, le_bytes_2, le_bytes_4, le_bytes_8, from_be_bytes-to_be_bytes_2}
use Rattle.std.proofs.lemmas.Nat.{from_be_bytes-to_be_bytes_4, from_be_bytes-to_be_bytes_8}
use Rattle.std.proofs.lemmas.Int.Digits.{number_more}
use Rattle.std.proofs.lemmas.List.{take_all}
use Rattle.std.specs.Int.{to_le_bytes, to_be_bytes, from_le_bytes, from_be_bytes, swap_bytes, w16, w32, w64}
use Rattle.std.specs.Int.Digits.{number_from_digits, AllBelowBase}

-- one more byte multiplies a bound by 256
pub pow_byte : (i : ℕ) → 2 ^ (8 * (i + 1)) ≡ 2 ^ (8 * i) * 256
pow_byte i = let e : 8 * (i + 1) ≡ 8 * i + 8 = omega arith in rw e (pow-add 2 (8 * i) 8)

-- two bytes of a number, and three more after a number
pub two_bytes : (bs : List ℕ) → 2 ≤ length bs
    → number_from_digits 256 (take 2 bs) ≡ (0 + get_or bs 0 0) * 256 + get_or bs 1 0
two_bytes bs long = number_more 256 bs 1 (omega arith)
    ∙ ap (λ n. n * 256 + get_or bs 1 0) (number_more 256 bs 0 (omega arith))

pub three_bytes : (bs : List ℕ) (i : ℕ) → i + 3 ≤ length bs
    → number_from_digits 256 (take (i + 3) bs)
    ≡ number_from_digits 256 (take i bs) * 2 ^ 24 +
    ((get_or bs i 0 * 256 + get_or bs (i + 1) 0) * 256 + get_or bs (i + 2) 0)
three_bytes bs i long =
    let a : number_from_digits 256 (take (i + 1) bs) ≡ number_from_digits 256 (take i bs) * 256 + get_or bs i 0 =
    number_more 256 bs i (omega arith) in
    let b : number_from_digits 256 (take (i + 1 + 1) bs)
    ≡ number_from_digits 256 (take (i + 1) bs) * 256 + get_or bs (i + 1) 0 =
    number_more 256 bs (i + 1) (omega arith) in
    let c : number_from_digits 256 (take (i + 2 + 1) bs)
    ≡ number_from_digits 256 (take (i + 2) bs) * 256 + get_or bs (i + 2) 0 =
    number_more 256 bs (i + 2) (omega arith) in
    let e : i + 1 + 1 ≡ i + 2 = omega arith in
    let f : i + 2 + 1 ≡ i + 3 = omega arith in
    let b' = rw e at b in
    let c' = rw f at c in
    omega (arith, a, b', c')

-- 14 bytes as five words
pub five_words : (bs : List ℕ) (h a b c d : ℕ) → length bs ≡ 14
    → h ≡ (0 + get_or bs 0 0) * 256 + get_or bs 1 0
    → a ≡ (get_or bs 2 0 * 256 + get_or bs 3 0) * 256 + get_or bs 4 0
    → b ≡ (get_or bs 5 0 * 256 + get_or bs 6 0) * 256 + get_or bs 7 0
    → c ≡ (get_or bs 8 0 * 256 + get_or bs 9 0) * 256 + get_or bs 10 0
    → d ≡ (get_or bs 11 0 * 256 + get_or bs 12 0) * 256 + get_or bs 13 0
    → (((h * 2 ^ 24 + a) * 2 ^ 24 + b) * 2 ^ 24 + c) * 2 ^ 24 + d ≡ number_from_digits 256 bs
five_words bs h a b c d long ih ia ib ic id =
    let e : number_from_digits 256 (take 2 bs) ≡ h = two_bytes bs (omega arith) ∙ sym ih in
    let f : number_from_digits 256 (take 5 bs) ≡ h * 2 ^ 24 + a =
    three_bytes bs 2 (omega arith) ∙ ap₂ (λ n w. n * 2 ^ 24 + w) e (sym ia) in
    let g : number_from_digits 256 (take 8 bs) ≡ (h * 2 ^ 24 + a) * 2 ^ 24 + b =
    three_bytes bs 5 (omega arith) ∙ ap₂ (λ n w. n * 2 ^ 24 + w) f (sym ib) in
    let i : number_from_digits 256 (take 11 bs) ≡ ((h * 2 ^ 24 + a) * 2 ^ 24 + b) * 2 ^ 24 + c =
    three_bytes bs 8 (omega arith) ∙ ap₂ (λ n w. n * 2 ^ 24 + w) g (sym ic) in
    let j : number_from_digits 256 (take 14 bs) ≡ (((h * 2 ^ 24 + a) * 2 ^ 24 + b) * 2 ^ 24 + c) * 2 ^ 24 + d =
    three_bytes bs 11 (omega arith) ∙ ap₂ (λ n w. n * 2 ^ 24 + w) i (sym id) in
    sym j ∙ ap (number_from_digits 256) (take_all 14 bs (omega arith))

pub AllBelowBase-get_or : (ds : List ℕ) (i : ℕ) → AllBelowBase 256 ds → get_or ds i 0 < 256
AllBelowBase-get_or [] i all = omega arith
AllBelowBase-get_or (d ∷ ds) zero all = all.0
AllBelowBase-get_or (d ∷ ds) (suc i) all = AllBelowBase-get_or ds i all.1

-- swapping the bytes turns little-endian order into big-endian order
turned_sum_8 : (a b c d e f g h : ℕ)
    → from_be_bytes w64 (a ∷ b ∷ c ∷ d ∷ e ∷ f ∷ g ∷ h ∷ []) ≡ from_le_bytes w64 (h ∷ g ∷ f ∷ e ∷ d ∷ c ∷ b ∷ a ∷ [])
turned_sum_8 a b c d e f g h = omega arith

pub turned_8 : (n : ℕ) → to_le_bytes w64 (swap_bytes w64 n) ≡ to_be_bytes w64 n
turned_8 n = le_bytes_8 (to_be_bytes w64 n) (swap_bytes w64 n) refl
    (λ i. AllBelowBase-get_or (to_be_bytes w64 n) i (omega arith))
    (turned_sum_8 (n % 256) (n / 2 ^ 8 % 256) (n / 2 ^ 16 % 256) (n / 2 ^ 24 % 256) (n / 2 ^ 32 % 256)
    (n / 2 ^ 40 % 256) (n / 2 ^ 48 % 256) (n / 2 ^ 56 % 256))

pub turned_4 : (n : ℕ) → to_le_bytes w32 (swap_bytes w32 n) ≡ to_be_bytes w32 n
turned_4 n = le_bytes_4 (to_be_bytes w32 n) (swap_bytes w32 n) refl
    (λ i. AllBelowBase-get_or (to_be_bytes w32 n) i (omega arith)) (omega arith)

pub turned_2 : (n : ℕ) → to_le_bytes w16 (swap_bytes w16 n) ≡ to_be_bytes w16 n
turned_2 n = le_bytes_2 (to_be_bytes w16 n) (swap_bytes w16 n) refl
    (λ i. AllBelowBase-get_or (to_be_bytes w16 n) i (omega arith)) (omega arith)

-- a big-endian word of eight, four or two bytes is the number that has these bytes as digits in base 256
eight_digits : (a b c d e f g h : ℕ)
    → number_from_digits 256 (a ∷ b ∷ c ∷ d ∷ e ∷ f ∷ g ∷ h ∷ [])
    ≡ from_be_bytes w64 (a ∷ b ∷ c ∷ d ∷ e ∷ f ∷ g ∷ h ∷ [])
eight_digits a b c d e f g h = omega arith

digits_of : (n : ℕ) → n < 2 ^ 64 → number_from_digits 256 (to_be_bytes w64 n) ≡ n
digits_of n small = eight_digits (n / 2 ^ 56 % 256) (n / 2 ^ 48 % 256) (n / 2 ^ 40 % 256) (n / 2 ^ 32 % 256)
    (n / 2 ^ 24 % 256) (n / 2 ^ 16 % 256) (n / 2 ^ 8 % 256) (n % 256) ∙ from_be_bytes-to_be_bytes_8 n small

four_more : (n a b c d : ℕ)
    → (((n * 256 + a) * 256 + b) * 256 + c) * 256 + d ≡ n * 2 ^ 32 + from_be_bytes w32 (a ∷ b ∷ c ∷ d ∷ [])
four_more n a b c d = omega arith

two_more : (n a b : ℕ) → (n * 256 + a) * 256 + b ≡ n * 2 ^ 16 + from_be_bytes w16 (a ∷ b ∷ [])
two_more n a b = omega arith

pub three_words : (m n p : ℕ) → m < 2 ^ 64 → n < 2 ^ 32 → p < 2 ^ 16
    → number_from_digits 256 (to_be_bytes w64 m ++ (to_be_bytes w32 n ++ to_be_bytes w16 p))
    ≡ (m * 2 ^ 32 + n) * 2 ^ 16 + p
three_words m n p first middle last =
    two_more _ (p / 2 ^ 8 % 256) (p % 256)
    ∙ ap₂ (λ h l. h * 2 ^ 16 + l)
    (four_more _ (n / 2 ^ 24 % 256) (n / 2 ^ 16 % 256) (n / 2 ^ 8 % 256) (n % 256)
    ∙ ap₂ (λ h l. h * 2 ^ 32 + l) (digits_of m first) (from_be_bytes-to_be_bytes_4 n middle))
    (from_be_bytes-to_be_bytes_2 p last)
