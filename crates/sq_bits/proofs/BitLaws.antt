-- The number of a frame has the frame's bits.
use Rattle.std.proofs.Common.{◌≡◌, ℕ, ◌+◌, ◌-◌, ◌*◌, ◌/◌, ◌%◌, ◌<◌, ◌≤◌, ◌^◌, List, [], ◌∷◌, ◌++◌, length, take, drop}
use Rattle.std.proofs.Common.{get_or, refl, sym, ap, ◌∙◌, subst, arith, suc, zero, add-one}
use Rattle.std.proofs.lemmas.Nat.{shr-shr, shr_high, mod_low, field_of as field_as_mod}
use Rattle.std.proofs.lemmas.Int.Digits.{number_more, number_lt, number_after_append, number_push}
use Rattle.std.proofs.lemmas.List.{length-drop, take-append-drop}
use Rattle.std.specs.Int.{bit_at}
use Rattle.std.specs.Int.Digits.{number_from_digits, number_from_digits_after, AllBelowBase}
use Rattle.sq_bits.specs.declared.frame.Frame.{Frame}
use Rattle.sq_bits.specs.Frames.{frame_number, IsFrame, bit_of}
use Rattle.sq_bits.proofs.Quotient.{quotient_of}
use Rattle.sq_bits.proofs.Digits.{pow_byte, AllBelowBase-get_or}
use Rattle.std.proofs.Math.Nat.{pow-suc}
use Rattle.sq_bits.proofs.Fields.{mod-mod_pow, field_parts, field_small}
use Rattle.std.specs.List.{range_with_len}
use Rattle.std.proofs.lemmas.List.FromFn.{map-range_with_len_more}
use Rattle.std.proofs.Common.{map}

-- the lowest c bits of a number are bits of the number
low_bit : (m c k : ℕ) → k < c → bit_at (m % 2 ^ c) k ≡ bit_at m k
low_bit m c k within =
    let j : ℕ = c - (k + 1) in
    let whole : c ≡ (j + 1) + k = omega arith in
    ap (λ x. m % 2 ^ x / 2 ^ k % 2) whole ∙ ap (λ x. x % 2) (field_as_mod m (j + 1) k) ∙ mod-mod_pow (m / 2 ^ k) j 1

-- bit k of a field, counted from its least significant one
pub field_bit : (f : Frame) (first count k : ℕ) → k < count
    → bit_at (quotient_of f first count) k ≡ bit_at (frame_number f) ((113 - first - count) + k)
unfolding quotient_of
field_bit f first count k within =
    let b : ℕ = 113 - first - count in
    low_bit (frame_number f / 2 ^ b) count k within ∙ ap (λ x. x % 2) (shr-shr (frame_number f) b k)

pow_byte_suc : (i : ℕ) → 2 ^ (8 * suc i) ≡ 2 ^ (8 * i) * 256
pow_byte_suc i = subst (λ x. 2 ^ (8 * x) ≡ 2 ^ (8 * i) * 256) (add-one i) (pow_byte i)

-- the digits after a number are its lower part
after_parts : (n : ℕ) (ys : List ℕ)
    → number_from_digits_after 256 n ys ≡ n * 2 ^ (8 * length ys) + number_from_digits_after 256 0 ys
after_parts n [] = omega arith
after_parts n (y ∷ ys) =
    let l : ℕ = length ys in
    let wide : 2 ^ (8 * suc l) ≡ 2 ^ (8 * l) * 256 = pow_byte_suc l in
    let more = after_parts (n * 256 + y) ys in
    let none = after_parts (0 * 256 + y) ys in
    rw wide (omega (arith, more, none))

-- a power of 256 as a power of 2
pow_256 : (k : ℕ) → 256 ^ k ≡ 2 ^ (8 * k)
pow_256 zero = refl
pow_256 (suc k) =
    let wide : 2 ^ (8 * suc k) ≡ 2 ^ (8 * k) * 256 = pow_byte_suc k in
    rw wide (pow-suc 256 k ∙ ap (λ x. x * 256) (pow_256 k))

AllBelowBase-drop : (k : ℕ) (ds : List ℕ) → AllBelowBase 256 ds → AllBelowBase 256 (drop k ds)
AllBelowBase-drop zero ds all = all
AllBelowBase-drop (suc k) [] all = all
AllBelowBase-drop (suc k) (d ∷ ds) all = AllBelowBase-drop k ds all.1

-- byte i of a frame, in its number
byte_of : (f : Frame) (i : ℕ) → IsFrame f → i < 14 → frame_number f / 2 ^ (8 * (13 - i)) % 2 ^ 8 ≡ get_or f.0 i 0
byte_of f i (long, all) within =
    let front : ℕ = number_from_digits 256 (take (i + 1) f.0) in
    let rest : List ℕ = drop (i + 1) f.0 in
    let short : length rest ≡ 13 - i = omega (arith, length-drop (i + 1) f.0) in
    let whole : frame_number f ≡ front * 2 ^ (8 * length rest) + number_from_digits 256 rest
    = ap (number_from_digits 256) (sym (take-append-drop (i + 1) f.0))
    ∙ number_after_append 256 0 (take (i + 1) f.0) rest ∙ after_parts front rest in
    let low : number_from_digits 256 rest < 2 ^ (8 * length rest) =
    rw (pow_256 (length rest)) at (number_lt 256 rest (AllBelowBase-drop (i + 1) f.0 all)) in
    let high : frame_number f / 2 ^ (8 * length rest) ≡ front
    = ap (λ x. x / 2 ^ (8 * length rest)) whole ∙ shr_high front (8 * length rest) (number_from_digits 256 rest) low in
    let last : front ≡ number_from_digits 256 (take i f.0) * 256 + get_or f.0 i 0 =
    number_more 256 f.0 i (omega arith) in
    ap (λ k. frame_number f / 2 ^ (8 * k) % 2 ^ 8) (sym short) ∙ ap (λ x. x % 2 ^ 8) (high ∙ last)
    ∙ mod_low (number_from_digits 256 (take i f.0)) 8 (get_or f.0 i 0) (AllBelowBase-get_or f.0 i all)

-- bit p + 1 of a frame, in its number
pub number_bit : (f : Frame) (place : ℕ) → IsFrame f → 1 ≤ place → place ≤ 112
    → bit_at (frame_number f) (112 - place) ≡ bit_of f place
number_bit f place is begins within =
    let p : ℕ = place - 1 in
    let k : ℕ = 7 - p % 8 in
    let e : 112 - place ≡ 8 * (13 - p / 8) + k = omega arith in
    let byte = byte_of f (p / 8) is (omega arith) in
    ap (λ x. bit_at (frame_number f) x) e ∙ ap (λ x. x % 2) (sym (shr-shr (frame_number f) (8 * (13 - p / 8)) k))
    ∙ sym (low_bit (frame_number f / 2 ^ (8 * (13 - p / 8))) 8 k (omega arith)) ∙ ap (λ x. bit_at x k) byte

-- a field has the bits at its places, the most significant first
pub bits_of_field : (f : Frame) (first count k : ℕ) → IsFrame f → 1 ≤ first → first + count ≤ 113 → k < count
    → bit_at (quotient_of f first count) (count - 1 - k) ≡ bit_of f (first + k)
bits_of_field f first count k is begins within small =
    let e : (113 - first - count) + (count - 1 - k) ≡ 112 - (first + k) = omega arith in
    field_bit f first count (count - 1 - k) (omega arith) ∙ ap (λ x. bit_at (frame_number f) x) e
    ∙ number_bit f (first + k) is (omega arith) (omega arith)

pub AllBelowBase-each : (ds : List ℕ) → ((i : ℕ) → get_or ds i 0 < 256) → AllBelowBase 256 ds
AllBelowBase-each [] each = tt
AllBelowBase-each (d ∷ ds) each = (each 0, AllBelowBase-each ds (λ i. each (suc i)))

-- one bit as a field
one_bit : (f : Frame) (place : ℕ) → IsFrame f → 1 ≤ place → place ≤ 112 → quotient_of f place 1 ≡ bit_of f place
one_bit f place is begins within =
    let at : bit_at (quotient_of f place 1) (1 - 1 - 0) ≡ bit_of f (place + 0) =
    bits_of_field f place 1 0 is begins (omega arith) (omega arith) in
    let same : place + 0 ≡ place = omega arith in
    let at' : bit_at (quotient_of f place 1) 0 ≡ bit_of f place =
    subst (λ p. bit_at (quotient_of f place 1) 0 ≡ bit_of f p) same at in
    let small = field_small f place 1 in
    omega (arith, at', small)

-- a field is the number in its bits
pub field_spelled : (f : Frame) (first count : ℕ) → IsFrame f → 1 ≤ first → first + count ≤ 113
    → quotient_of f first count ≡ number_from_digits 2 (map (bit_of f) (range_with_len first count))
field_spelled f first zero is begins within = let small = field_small f first 0 in omega arith
field_spelled f first (suc count) is begins within =
    let more : map (bit_of f) (range_with_len first (count + 1)) ≡ map (bit_of f) (range_with_len first count)
    ++ bit_of f (first + count) ∷ []
    = map-range_with_len_more (bit_of f) first count (first + count) refl in
    let parts : quotient_of f first (count + 1) ≡ quotient_of f first count * 2 ^ 1 + quotient_of f (first + count) 1
    = field_parts f first count 1 begins (omega arith) in
    let before = field_spelled f first count is begins (omega arith) in
    let last = one_bit f (first + count) is (omega arith) (omega arith) in
    let spelled : number_from_digits 2 (map (bit_of f) (range_with_len first (count + 1)))
    ≡ number_from_digits 2 (map (bit_of f) (range_with_len first count)) * 2 + bit_of f (first + count)
    = ap (number_from_digits 2) more
    ∙ number_push 2 (map (bit_of f) (range_with_len first count)) (bit_of f (first + count)) in
    let whole : quotient_of f first (count + 1)
    ≡ number_from_digits 2 (map (bit_of f) (range_with_len first (count + 1))) =
    omega (arith, parts, before, last, spelled) in
    subst (λ c. quotient_of f first c ≡ number_from_digits 2 (map (bit_of f) (range_with_len first c)))
    (add-one count) whole
