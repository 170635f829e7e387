-- The table of all bytes as two hexadecimal digits, and reading it.
use Rattle.std.proofs.Common.{◌≡◌, ℕ, ◌*◌, ◌/◌, ◌%◌, ◌<◌, ◌^◌, true, List, [], ◌∷◌, ◌++◌, map, take, drop, get_or}
use Rattle.std.proofs.Common.{bit_and, refl, sym, ap, ap₂, ◌∙◌, arith}
use Rattle.std.proofs.lemmas.List.FromFn.{get_or-map-range_with_len}
use Rattle.std.proofs.lemmas.Nat.{and_mask}
use Rattle.std.specs.Fmt.{digit_glyph}
use Rattle.std.specs.List.{range_with_len}
use Rattle.std.specs.Str.{IsAscii}
use Rattle.sq_digits.specs.Digits.{hexadecimal}
use Rattle.sq_digits.specs.declared.hexadecimal.TheConstants.{BYTES}
use Rattle.sq_digits.proofs.Ascii.{ascii_from}

-- the two digits of a byte in the table
abbrev pub two_at : ℕ → List ℕ
two_at n = take 2 (drop (2 * n) BYTES.now)

bytes_are : map two_at (range_with_len 0 256) ≡ map (hexadecimal 2) (range_with_len 0 256)
bytes_are = refl

pub byte_at : (n : ℕ) → n < 256 → two_at n ≡ hexadecimal 2 n
byte_at n small =
    sym (get_or-map-range_with_len two_at 0 256 n n [] small (omega arith))
    ∙ ap (λ t. get_or t n []) bytes_are ∙ get_or-map-range_with_len (hexadecimal 2) 0 256 n n [] small (omega arith)

pub IsAscii-bytes : IsAscii BYTES.now
IsAscii-bytes = ascii_from BYTES.now refl

-- the digits of the lowest byte of a number are the lowest two digits of the number
byte_of : (m : ℕ) → hexadecimal 2 (bit_and m 255) ≡ hexadecimal 2 m
byte_of m =
    let byte : bit_and m 255 ≡ m % 256 = and_mask m 8 in
    let low : m % 256 % 16 ≡ m % 16 = omega arith in
    let high : m % 256 / 16 % 16 ≡ m / 16 % 16 = omega arith in
    ap (hexadecimal 2) byte ∙ ap₂ (λ h l. digit_glyph true h ∷ digit_glyph true l ∷ []) high low

-- six digits, two at a time
pub six_places : (n : ℕ) → hexadecimal 6 n ≡ hexadecimal 2 (bit_and (n / 2 ^ 16) 255)
    ++ (hexadecimal 2 (bit_and (n / 2 ^ 8) 255) ++ hexadecimal 2 (bit_and n 255))
six_places n =
    let a : n / 16 / 16 / 16 / 16 ≡ n / 2 ^ 16 = omega arith in
    let b : n / 16 / 16 ≡ n / 2 ^ 8 = omega arith in
    let all : hexadecimal 6 n ≡ hexadecimal 2 (n / 16 / 16 / 16 / 16)
    ++ (hexadecimal 2 (n / 16 / 16) ++ hexadecimal 2 n) = refl in
    all ∙ ap₂ (λ x y. x ++ (y ++ hexadecimal 2 n)) (ap (hexadecimal 2) a ∙ sym (byte_of (n / 2 ^ 16)))
    (ap (hexadecimal 2) b ∙ sym (byte_of (n / 2 ^ 8)))
    ∙ ap (λ z. hexadecimal 2 (bit_and (n / 2 ^ 16) 255) ++ (hexadecimal 2 (bit_and (n / 2 ^ 8) 255) ++ z))
    (sym (byte_of n))
