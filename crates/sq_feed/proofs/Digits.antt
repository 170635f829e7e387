-- The digits of frames.
use Rattle.std.proofs.Common.{◌≡◌, ◌≤◌, ◌∙◌, ◌++◌, ◌+◌, ◌/◌, ◌%◌, ◌<◌, ℕ, Bool, true, false, List, [], ◌∷◌, ap, arith, length, take}
use Rattle.std.proofs.lemmas.List.{take_all}
use Rattle.std.specs.Prelude.{nat_lt, if◌then◌else◌}
use Rattle.std.specs.Fmt.{digit_glyph}
use Rattle.std.specs.Str.{IsAscii}
use Rattle.std.proofs.lemmas.Str.{IsAscii-append}
use Rattle.std.proofs.lemmas.Str.Ascii.{IsAscii-cons, IsAscii-nil}
use Rattle.sq_digits.specs.Characters.{space}
use Rattle.sq_feed.specs.Lines.{frame_digits, tail_of}

glyph_small : (d : ℕ) → d < 16 → digit_glyph true d < 128
glyph_small d small = by_case (nat_lt d 10)
  where
    by_case : (t : Bool) → (if t then 48 + d else 55 + d) < 128
    by_case true = omega (arith, small)
    by_case false = omega (arith, small)

pub ascii_digits : (frame : List ℕ) → IsAscii (frame_digits frame)
ascii_digits [] = IsAscii-nil
ascii_digits (b ∷ frame) =
    IsAscii-append (digit_glyph true (b / 16 % 16) ∷ digit_glyph true (b % 16) ∷ []) (frame_digits frame)
    (IsAscii-cons (digit_glyph true (b / 16 % 16)) (digit_glyph true (b % 16) ∷ []) (glyph_small (b / 16 % 16)
    (omega arith))
    (IsAscii-cons (digit_glyph true (b % 16)) [] (glyph_small (b % 16) (omega arith)) IsAscii-nil))
    (ascii_digits frame)

pub ascii_tail : (frame : List ℕ) → IsAscii (tail_of frame)
ascii_tail frame =
    IsAscii-cons 32 (frame_digits frame ++ 10 ∷ []) (omega arith)
    (IsAscii-append (frame_digits frame) (10 ∷ []) (ascii_digits frame) (IsAscii-cons 10 [] (omega arith) IsAscii-nil))

-- the tail of the bytes that the loop has processed
pub tail_is : (frame bytes made all : List ℕ) (n : ℕ) → length frame ≤ n → bytes ≡ all → all ≡ made ++ 10 ∷ []
    → made ≡ space ∷ frame_digits (take n frame) → bytes ≡ tail_of frame
tail_is frame bytes made all n whole same pushed is =
    same ∙ pushed ∙ ap (λ l. l ++ 10 ∷ []) (is ∙ ap (λ l. space ∷ frame_digits l) (take_all n frame whole))
