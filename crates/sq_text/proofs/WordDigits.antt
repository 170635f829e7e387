-- Digits in the lanes of a word, and their number.
use Rattle.std.proofs.Common.{◌≡◌, ℕ, ◌+◌, ◌-◌, ◌*◌, ◌/◌, ◌%◌, ◌<◌, ◌≤◌, ◌^◌, List, [], ◌∷◌, zero, suc}
use Rattle.std.proofs.Common.{length, get_or, map, replicate, bit_and}
use Rattle.std.proofs.Common.{refl, ap, ap₂, ◌∙◌, arith}
use Rattle.std.proofs.Math.Nat.{pow-le-pow_right}
use Rattle.std.proofs.lemmas.Nat.{and_block, and_mask, pow_pos}
use Rattle.std.proofs.lemmas.Simd.{pick_l_whole}
use Rattle.std.specs.Int.Digits.{number_from_digits, AllBelowBase}
use Rattle.std.specs.Simd.Lanes.{Each1, number_l}

-- ---- the lanes of a word

-- a mask keeps the low j bits of each lane of k bits
pub masked : (k j : ℕ) → j ≤ k → (xs : List ℕ) → Each1 (λ x. x < 2 ^ k) xs
    → bit_and (number_l (2 ^ k) xs) (number_l (2 ^ k) (replicate (length xs) (2 ^ j - 1)))
    ≡ number_l (2 ^ k) (map (λ x. x % 2 ^ j) xs)
masked k j le [] each = refl
masked k j le (x ∷ xs) each =
    let n : ℕ = number_l (2 ^ k) xs in
    let m : ℕ = number_l (2 ^ k) (replicate (length xs) (2 ^ j - 1)) in
    let most : 2 ^ j ≤ 2 ^ k = pow-le-pow_right (omega arith) le in
    let below : 2 ^ j - 1 < 2 ^ k = omega (arith, most, pow_pos j) in
    let lanes : x + 2 ^ k * n ≡ n * 2 ^ k + x = omega arith in
    let masks : 2 ^ j - 1 + 2 ^ k * m ≡ m * 2 ^ k + (2 ^ j - 1) = omega arith in
    ap₂ bit_and lanes masks ∙ and_block k n m x (2 ^ j - 1) each.0 below
    ∙ ap₂ (λ u v. u * 2 ^ k + v) (masked k j le xs each.1) (and_mask x j) ∙ omega arith

-- eight bytes as one number, the first of them the lowest
abbrev pub word_of : List ℕ → ℕ
word_of bs = get_or bs 0 0 + get_or bs 1 0 * 256 + get_or bs 2 0 * 65536 + get_or bs 3 0 * 16777216
    + get_or bs 4 0 * 4294967296 + get_or bs 5 0 * 1099511627776 + get_or bs 6 0 * 281474976710656
    + get_or bs 7 0 * 72057594037927936

-- eight bytes are the list of them
eight_are : (bs : List ℕ) → length bs ≡ 8 → get_or bs 0 0 ∷ get_or bs 1 0 ∷ get_or bs 2 0 ∷ get_or bs 3 0
    ∷ get_or bs 4 0 ∷ get_or bs 5 0 ∷ get_or bs 6 0 ∷ get_or bs 7 0 ∷ [] ≡ bs
eight_are bs long = pick_l_whole 0 bs 8 long

pub word_is : (bs : List ℕ) → length bs ≡ 8 → word_of bs ≡ number_l 256 bs
word_is bs long = omega (arith, ap (number_l 256) (eight_are bs long))

-- ---- three steps over eight digits

-- the bytes after the first product: each a digit and ten times the one before it
first_step : (a b c d e f g h : ℕ) → a < 10 → b < 10 → c < 10 → d < 10 → e < 10 → f < 10 → g < 10 → h < 10
    → (a + b * 256 + c * 65536 + d * 16777216 + e * 4294967296 + f * 1099511627776 + g * 281474976710656
    + h * 72057594037927936) * 2561 % 18446744073709551616 / 256
    ≡ number_l 65536 ((b + 10 * a + 256 * (c + 10 * b)) ∷ (d + 10 * c + 256 * (e + 10 * d))
    ∷ (f + 10 * e + 256 * (g + 10 * f)) ∷ (h + 10 * g) ∷ [])
first_step a b c d e f g h p q r s t u v w = omega (arith, p, q, r, s, t, u, v, w)

-- two digits in each lane of two bytes
pairs_are : (a b c d e f g h : ℕ) → a < 10 → b < 10 → c < 10 → d < 10 → e < 10 → f < 10 → g < 10 → h < 10
    → bit_and ((a + b * 256 + c * 65536 + d * 16777216 + e * 4294967296 + f * 1099511627776 + g * 281474976710656
    + h * 72057594037927936) * 2561 % 18446744073709551616 / 256) 71777214294589695
    ≡ number_l 65536 ((b + 10 * a) ∷ (d + 10 * c) ∷ (f + 10 * e) ∷ (h + 10 * g) ∷ [])
pairs_are a b c d e f g h p q r s t u v w =
    let lanes : List ℕ = (b + 10 * a + 256 * (c + 10 * b)) ∷ (d + 10 * c + 256 * (e + 10 * d))
    ∷ (f + 10 * e + 256 * (g + 10 * f)) ∷ (h + 10 * g) ∷ [] in
    ap (λ n. bit_and n 71777214294589695) (first_step a b c d e f g h p q r s t u v w)
    ∙ masked 16 8 (omega arith) lanes
    (omega (arith, p, q, r), (omega (arith, r, s, t), (omega (arith, t, u, v), (omega (arith, v, w), tt))))
    ∙ omega (arith, p, q, r, s, t, u, v, w)

-- the lanes of two bytes after the second product: each a pair and a hundred times the one before it
second_step : (p q r s : ℕ) → p < 100 → q < 100 → r < 100 → s < 100
    → number_l 65536 (p ∷ q ∷ r ∷ s ∷ []) * 6553601 % 18446744073709551616 / 65536
    ≡ number_l 4294967296 ((q + 100 * p + 65536 * (r + 100 * q)) ∷ (s + 100 * r) ∷ [])
second_step p q r s a b c d = omega (arith, a, b, c, d)

-- four digits in each lane of four bytes
fours_are : (p q r s : ℕ) → p < 100 → q < 100 → r < 100 → s < 100
    → bit_and (number_l 65536 (p ∷ q ∷ r ∷ s ∷ []) * 6553601 % 18446744073709551616 / 65536) 281470681808895
    ≡ number_l 4294967296 ((q + 100 * p) ∷ (s + 100 * r) ∷ [])
fours_are p q r s a b c d =
    let lanes : List ℕ = (q + 100 * p + 65536 * (r + 100 * q)) ∷ (s + 100 * r) ∷ [] in
    ap (λ n. bit_and n 281470681808895) (second_step p q r s a b c d)
    ∙ masked 32 16 (omega arith) lanes (omega (arith, a, b, c), (omega (arith, c, d), tt))
    ∙ omega (arith, a, b, c, d)

-- eight digits after the third product
third_step : (m n : ℕ) → m < 10000 → n < 10000
    → number_l 4294967296 (m ∷ n ∷ []) * 42949672960001 % 18446744073709551616 / 4294967296 ≡ n + 10000 * m
third_step m n a b = omega (arith, a, b)

-- the three steps, as the code computes them
abbrev pub joined_eight : ℕ → ℕ
joined_eight word =
    bit_and (bit_and (word * 2561 % 18446744073709551616 / 256) 71777214294589695 * 6553601
    % 18446744073709551616 / 65536) 281470681808895 * 42949672960001 % 18446744073709551616 / 4294967296

eight_joined : (a b c d e f g h : ℕ) → a < 10 → b < 10 → c < 10 → d < 10 → e < 10 → f < 10 → g < 10 → h < 10
    → joined_eight (a + b * 256 + c * 65536 + d * 16777216 + e * 4294967296 + f * 1099511627776 + g * 281474976710656
    + h * 72057594037927936) ≡ number_from_digits 10 (a ∷ b ∷ c ∷ d ∷ e ∷ f ∷ g ∷ h ∷ [])
eight_joined a b c d e f g h p q r s t u v w =
    let fours = fours_are (b + 10 * a) (d + 10 * c) (f + 10 * e) (h + 10 * g)
    (omega (arith, p, q)) (omega (arith, r, s)) (omega (arith, t, u)) (omega (arith, v, w)) in
    let eight = third_step (d + 10 * c + 100 * (b + 10 * a)) (h + 10 * g + 100 * (f + 10 * e))
    (omega (arith, p, q, r, s)) (omega (arith, t, u, v, w)) in
    ap (λ n. bit_and (n * 6553601 % 18446744073709551616 / 65536) 281470681808895 * 42949672960001
    % 18446744073709551616 / 4294967296) (pairs_are a b c d e f g h p q r s t u v w)
    ∙ ap (λ n. n * 42949672960001 % 18446744073709551616 / 4294967296) fours
    ∙ eight ∙ omega arith

-- each of eight values of digits is below 10
small_at : (vs : List ℕ) (i : ℕ) → AllBelowBase 10 vs → i < length vs → get_or vs i 0 < 10
small_at [] i all within = absurd (omega (arith, within))
small_at (v ∷ vs) zero all within = all.0
small_at (v ∷ vs) (suc i) all within = small_at vs i all.1 (omega (arith, within))

pub values_joined : (vs : List ℕ) → length vs ≡ 8 → AllBelowBase 10 vs
    → joined_eight (word_of vs) ≡ number_from_digits 10 vs
values_joined vs long all =
    let at : (i : ℕ) → i < 8 → get_or vs i 0 < 10 = λ i small. small_at vs i all (omega (arith, small, long)) in
    eight_joined (get_or vs 0 0) (get_or vs 1 0) (get_or vs 2 0) (get_or vs 3 0) (get_or vs 4 0) (get_or vs 5 0)
    (get_or vs 6 0) (get_or vs 7 0) (at 0 (omega arith)) (at 1 (omega arith)) (at 2 (omega arith)) (at 3 (omega arith))
    (at 4 (omega arith)) (at 5 (omega arith)) (at 6 (omega arith)) (at 7 (omega arith))
    ∙ ap (number_from_digits 10) (eight_are vs long)
