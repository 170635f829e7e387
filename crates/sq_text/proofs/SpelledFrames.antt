-- Hexadecimal digits read in lanes give the bytes that `hex` decodes.
use Rattle.std.proofs.Common.{◌≡◌, ℕ, ◌+◌, ◌*◌, ◌/◌, ◌<◌, Ok, Some, List, zero, suc, map, get_or, length, drop}
use Rattle.std.proofs.Common.{ap, ◌∙◌, arith}
use Rattle.std.proofs.lemmas.Bool.{ltb-true}
use Rattle.std.proofs.lemmas.List.{drop_all}
use Rattle.std.specs.Char.{digit_value}
use Rattle.std.specs.List.{range_with_len}
use Rattle.hex.specs.Hex.{decode_of, decode_pairs, digit_or_error, hex_digit_value, pair_value, value_at, ◌>>=◌}
use Rattle.hex.proofs.HexLemmas.{decode_of-even}
use Rattle.hex.proofs.Pairs.{cons_byte, decode_pairs-ok_pair, drop-pair}
use Rattle.sq_digits.specs.HexDigits.{AreHex, byte_at, bytes_of}
use Rattle.sq_digits.proofs.Spelled.{hex_at}
use Rattle.sq_text.specs.FrameText.{SpellsByte}

-- the value of a digit
digit_known : (x : ℕ) → digit_value x < 16 → hex_digit_value x ≡ Some (digit_value x)
digit_known x small = grind (arith, small)

-- two digits make a byte
pair_from : (a b i h l : ℕ) → hex_digit_value a ≡ Some h → hex_digit_value b ≡ Some l
    → pair_value a b i ≡ Ok (h * 16 + l)
pair_from a b i h l x y =
    ap (λ o. digit_or_error a i o >>= (λ high. value_at b (i + 1) >>= (λ low. Ok (high * 16 + low)))) x
    ∙ ap (λ o. digit_or_error b (i + 1) o >>= (λ low. Ok (h * 16 + low))) y

value_at_index : (digits : List ℕ) (i : ℕ) → AreHex digits → i < length digits
    → hex_digit_value (get_or digits i 0) ≡ Some (digit_value (get_or digits i 0))
value_at_index digits i hex within = digit_known (get_or digits i 0) (ltb-true _ 16 (hex_at digits i hex within))

-- each byte is the one that its two digits encode
spells : (digits : List ℕ) (k : ℕ) → AreHex digits → 2 * k + 1 < length digits
    → SpellsByte digits k (byte_at digits k)
spells digits k hex within =
    let h : ℕ = digit_value (get_or digits (2 * k) 0) in
    let l : ℕ = digit_value (get_or digits (2 * k + 1) 0) in
    let sum : h * 16 + l ≡ 16 * h + l = omega arith in
    pair_from (get_or digits (2 * k) 0) (get_or digits (2 * k + 1) 0) (2 * k) h l
    (value_at_index digits (2 * k) hex (omega (arith, within))) (value_at_index digits (2 * k + 1) hex within)
    ∙ ap Ok sum

-- n bytes from byte k on are decoded
decoded : (digits : List ℕ) (n k : ℕ) → AreHex digits → 2 * (k + n) ≡ length digits
    → decode_pairs (2 * k) (drop (2 * k) digits) ≡ Ok (map (byte_at digits) (range_with_len k n))
unfolding decode_pairs
decoded digits zero k hex whole = ap (decode_pairs (2 * k)) (drop_all (2 * k) digits (omega (arith, whole)))
decoded digits (suc n) k hex whole =
    let more : List ℕ = drop (2 * (k + 1)) digits in
    let two : 2 * k + 2 ≡ 2 * (k + 1) = omega arith in
    let byte : ℕ = byte_at digits k in
    ap (decode_pairs (2 * k)) (drop-pair digits k (omega (arith, whole)))
    ∙ decode_pairs-ok_pair (2 * k) (get_or digits (2 * k) 0) (get_or digits (2 * k + 1) 0) byte more
    (spells digits k hex (omega (arith, whole)))
    ∙ ap (λ j. cons_byte byte (decode_pairs j more)) two
    ∙ ap (cons_byte byte) (decoded digits n (k + 1) hex (omega (arith, whole)))

-- 28 digits are decoded to the bytes that they encode
pub decodes_28 : (digits : List ℕ) → AreHex digits → length digits ≡ 28 → decode_of digits ≡ Ok (bytes_of digits)
decodes_28 digits hex long =
    let half : 14 ≡ length digits / 2 = omega (arith, long) in
    decode_of-even digits (omega (arith, long)) ∙ decoded digits 14 0 hex (omega (arith, long))
    ∙ ap (λ n. Ok (map (byte_at digits) (range_with_len 0 n))) half
