-- Texts of angles are ASCII.
use Rattle.std.proofs.Common.{ℕ, List, [], ◌∷◌, ◌++◌, Bool, true, false, sym, subst, arith}
use Rattle.std.proofs.lemmas.Str.Ascii.{IsAscii-nil, IsAscii-cons}
use Rattle.std.proofs.lemmas.Str.{IsUtf8-from_ascii, IsAscii-append}
use Rattle.std.specs.Char.{IsAsciiDigit}
use Rattle.std.specs.List.{AllByRecursion}
use Rattle.std.specs.Str.{IsAscii, IsUtf8}
use Rattle.sq_angle.specs.Spelling.{Parts, Spells, fraction, minus, text_of}

-- digits are ASCII
ascii_digits : (ds : List ℕ) → AllByRecursion IsAsciiDigit ds → IsAscii ds
ascii_digits [] h = IsAscii-nil
ascii_digits (d ∷ ds) h = IsAscii-cons d ds (omega (arith, h.0)) (ascii_digits ds h.1)

-- a sign is ASCII
ascii_minus : (negative : Bool) → IsAscii (minus negative)
ascii_minus true = IsAscii-cons 45 [] (omega arith) IsAscii-nil
ascii_minus false = IsAscii-nil

-- the text from the point on is ASCII
ascii_fraction : (ds : List ℕ) → AllByRecursion IsAsciiDigit ds → IsAscii (fraction ds)
ascii_fraction [] h = IsAscii-nil
ascii_fraction (d ∷ ds) h = IsAscii-cons 46 (d ∷ ds) (omega arith) (ascii_digits (d ∷ ds) h)

-- a text that encodes an angle is UTF-8
pub spelling_is_utf8 : (text : List ℕ) (p : Parts) → Spells text p → IsUtf8 text
spelling_is_utf8 text p spells =
    let whole = ascii_digits p.whole spells.0.whole_digits in
    let rest = ascii_fraction p.decimals spells.0.decimal_digits in
    let parts = IsAscii-append (minus p.negative ++ p.whole) (fraction p.decimals)
    (IsAscii-append (minus p.negative) p.whole (ascii_minus p.negative) whole) rest in
    subst IsUtf8 (sym spells.1) (IsUtf8-from_ascii (text_of p) parts)
