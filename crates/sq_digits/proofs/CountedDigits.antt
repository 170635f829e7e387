-- The number of digits at the front of a text, as lanes count them.
use Rattle.std.proofs.Common.{◌≡◌, ℕ, ◌%◌, ◌<◌, ◌≤◌, ◌^◌, List, [], ◌∷◌, suc, Bool, true, false, w8, Fits}
use Rattle.std.proofs.Common.{length, take, get_or, map, replicate, cond, eqb, ltb, not}
use Rattle.std.proofs.Common.{refl, sym, ap, ◌∙◌, subst, arith}
use Rattle.std.proofs.lemmas.Bool.{eq-eqb, ltb-false, ltb-true, ne_eqb}
use Rattle.std.proofs.lemmas.List.{get_or-take, length-map, length-take-le}
use Rattle.std.proofs.lemmas.List.Sums.{prefix_len-le-length, prefix_len_passes, prefix_len_stops}
use Rattle.std.proofs.lemmas.Simd.{first_set_mask_l, map-map, mask_l-mod, zip2_splat, zip2_splat_left}
use Rattle.std.specs.Char.{IsAsciiDigit}
use Rattle.std.specs.Int.{trailing_zeros, w64}
use Rattle.std.specs.List.{AllByRecursion, prefix_len}
use Rattle.std.specs.Simd.Lanes.{mask_l, top, zip2}
use Rattle.sq_digits.proofs.HexLanes.{below, less, low}

-- ---- one lane, as the code computes it

-- whether the mask marks a byte
abbrev pub is_other : ℕ → Bool
is_other x = top 7 (below 9 (less x 48))

high : (b : Bool) → top 7 (cond b 255 0) ≡ true → b ≡ true
high true e = refl
high false e = absurd (cc e)

digit_if_not_named : (x : ℕ) → x < 256 → is_other x ≡ false → IsAsciiDigit x
digit_if_not_named x small not_named =
    let most : less x 48 ≤ 9 = ltb-false 9 (less x 48) (low (ltb 9 (less x 48)) not_named) in
    omega (arith, small, most)

named_if_no_digit : (x : ℕ) → is_other x ≡ true → ¬ IsAsciiDigit x
named_if_no_digit x named digit =
    let more : 9 < less x 48 = ltb-true 9 (less x 48) (high (ltb 9 (less x 48)) named) in
    absurd (omega (arith, digit, more))

passes : (b : Bool) → not b ≡ true → b ≡ false
passes true e = absurd (cc e)
passes false e = refl

stops : (b : Bool) → not b ≡ false → b ≡ true
stops true e = refl
stops false e = absurd (cc e)

-- ---- all lanes

-- the mask, as the code computes it
abbrev pub mask_of : List ℕ → ℕ
mask_of lanes = mask_l (map (top 7) (zip2 below (replicate 16 9) (zip2 less lanes (replicate 16 48)))) % 2 ^ 64

mask_is : (lanes : List ℕ) → length lanes ≡ 16 → mask_of lanes ≡ mask_l (map is_other lanes)
mask_is lanes long =
    let differences : List ℕ = map (λ x. less x 48) lanes in
    let same : length differences ≡ 16 = length-map lanes (λ x. less x 48) ∙ long in
    let compared = ap (zip2 below (replicate 16 9)) (zip2_splat less lanes 16 48 long)
    ∙ zip2_splat_left below 9 16 differences same ∙ map-map (below 9) (λ x. less x 48) lanes in
    let tops = ap (map (top 7)) compared ∙ map-map (top 7) (λ x. below 9 (less x 48)) lanes in
    let few : length (map is_other lanes) ≤ 64 = omega (arith, long, length-map lanes is_other) in
    ap (λ ms. mask_l ms % 2 ^ 64) tops ∙ mask_l-mod (map is_other lanes) 64 few

-- the number of bytes before the first that a mask marks
abbrev count_of : ℕ → ℕ
count_of mask = cond (eqb mask 0) 16 (trailing_zeros w64 mask)

-- the number of digits before the first other byte
abbrev pub run_of : List ℕ → ℕ
run_of text = prefix_len (λ x. not (is_other x)) (take 16 text)

count_is : (text : List ℕ) → 16 ≤ length text → count_of (mask_of (take 16 text)) ≡ run_of text
count_is text room =
    let long : length (take 16 text) ≡ 16 = length-take-le 16 text room in
    ap count_of (mask_is (take 16 text) long) ∙ first_set_mask_l is_other (take 16 text) 16 long (omega arith)

pub all_is : (text : List ℕ) → 16 ≤ length text → mask_of (take 16 text) ≡ 0 → 16 ≡ run_of text
all_is text room none =
    let mask : ℕ = mask_of (take 16 text) in
    sym (ap (λ b. cond b 16 (trailing_zeros w64 mask)) (eq-eqb mask 0 none)) ∙ count_is text room

pub some_is : (text : List ℕ) → 16 ≤ length text → ¬ (mask_of (take 16 text) ≡ 0)
    → trailing_zeros w64 (mask_of (take 16 text)) ≡ run_of text
some_is text room some =
    let mask : ℕ = mask_of (take 16 text) in
    sym (ap (λ b. cond b 16 (trailing_zeros w64 mask)) (ne_eqb mask 0 some)) ∙ count_is text room

-- ---- the bytes that are counted

all_digits : (xs : List ℕ) → ((i : ℕ) → i < length xs → IsAsciiDigit (get_or xs i 0)) → AllByRecursion IsAsciiDigit xs
all_digits [] each = tt
all_digits (x ∷ xs) each =
    (each 0 (omega arith), all_digits xs (λ i within. each (suc i) (omega (arith, within))))

pub run_few : (text : List ℕ) → 16 ≤ length text → run_of text ≤ 16
run_few text room =
    omega (arith, length-take-le 16 text room, prefix_len-le-length (λ x. not (is_other x)) (take 16 text))

pub run_digits : (text : List ℕ) → 16 ≤ length text → ((i : ℕ) → Fits w8 (get_or text i 0))
    → AllByRecursion IsAsciiDigit (take (run_of text) text)
run_digits text room fits = all_digits (take (run_of text) text) (λ i within.
    let few = run_few text room in
    let long = length-take-le (run_of text) text (omega (arith, few, room)) in
    let small : i < run_of text = omega (arith, within, long) in
    let pass = prefix_len_passes (λ x. not (is_other x)) (take 16 text) i 0 small in
    let lane = get_or-take 16 text i 0 (omega (arith, small, few)) in
    let digit = digit_if_not_named (get_or text i 0) (fits i).fits
    (ap is_other (sym lane) ∙ passes (is_other (get_or (take 16 text) i 0)) pass) in
    subst IsAsciiDigit (sym (get_or-take (run_of text) text i 0 small)) digit)

pub run_ends : (text : List ℕ) → 16 ≤ length text → run_of text < 16 → ¬ IsAsciiDigit (get_or text (run_of text) 0)
run_ends text room few =
    let long = length-take-le 16 text room in
    let stop = prefix_len_stops (λ x. not (is_other x)) (take 16 text) 0 (omega (arith, long, few)) in
    let lane = get_or-take 16 text (run_of text) 0 few in
    named_if_no_digit (get_or text (run_of text) 0)
    (ap is_other (sym lane) ∙ stops (is_other (get_or (take 16 text) (run_of text) 0)) stop)
