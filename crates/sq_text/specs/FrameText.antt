-- Frame text: 28 hexadecimal digits of either case, bare or between `*` and `;`, and the first error of any other
-- text.
use Rattle.std.specs.Prelude.{◌≡◌, ◌≢◌, ℕ, ◌+◌, ◌*◌, ◌<◌, ◌⊎◌, List, [], ◌∷◌, ◌++◌, length, take, slice_index, false}
use Rattle.std.specs.Prelude.{Result, Ok, MatchResult}
use Rattle.std.specs.List.{AllPass}
use Rattle.hex.specs.Hex.{decode_of, is_hex_digit, pair_value}
use Rattle.sq_digits.specs.Characters.{semicolon, star}
use Rattle.sq_bits.specs.declared.frame.Frame.{Frame}
use Rattle.sq_text.specs.declared.frame_text.TextFault.{TextFault}
use Rattle.sq_text.specs.declared.frame_text.TextFault.TheVariants.{Wrap, Short, Length, Digit}

-- the text begins with `*`
abbrev pub Begins : List ℕ → Type 0
Begins text = (rest : List ℕ) × (text ≡ star ∷ rest)

-- the text ends with `;`
abbrev pub Ends : List ℕ → Type 0
Ends text = (front : List ℕ) × (text ≡ front ++ semicolon ∷ [])

-- the body: the text between `*` and `;`, or the bare text
abbrev pub IsBody : List ℕ → List ℕ → Type 0
IsBody text body = (text ≡ star ∷ (body ++ semicolon ∷ [])) ⊎ ((¬ (Begins text)) × (¬ (Ends text)) × (text ≡ body))

-- the text has one of `*` and `;` without the other
abbrev pub IsHalfWrapped : List ℕ → Type 0
IsHalfWrapped text = (Begins text × ¬ (Ends text)) ⊎ (Ends text × ¬ (Begins text))

-- the text's body is the 28 hexadecimal digits of the frame, of either case
abbrev pub IsFrameText : List ℕ → Frame → Type 0
IsFrameText text frame = (body : List ℕ) × IsBody text body × (length body ≡ 28) × (decode_of body ≡ Ok frame.0)

-- the two digits from index 2 * k on encode this byte
abbrev pub SpellsByte : List ℕ → ℕ → ℕ → Type 0
SpellsByte body k value = pair_value (slice_index body (2 * k)) (slice_index body (2 * k + 1)) (2 * k) ≡ Ok value

-- byte k, counted from 0, is the first that is not a hexadecimal digit
abbrev pub IsFirstBadDigit : List ℕ → ℕ → Type 0
IsFirstBadDigit body k = (k < length body) × (is_hex_digit (slice_index body k) ≡ false)
    × AllPass is_hex_digit (take k body)

-- the first error of a text
abbrev pub IsTextFault : List ℕ → TextFault → Type 0
IsTextFault text Wrap = IsHalfWrapped text
IsTextFault text Short = (body : List ℕ) × IsBody text body × (length body ≡ 14)
IsTextFault text (Length n) = (body : List ℕ) × IsBody text body × (length body ≡ n) × (n ≢ 14) × (n ≢ 28)
IsTextFault text (Digit p) =
    (body : List ℕ) × IsBody text body × (length body ≡ 28) × ((k : ℕ) × (p ≡ k + 1) × IsFirstBadDigit body k)

-- the result of `read_text`
abbrev pub IsFrameReading : List ℕ → Result Frame TextFault → Type 0
IsFrameReading text answer = MatchResult answer (IsFrameText text) (IsTextFault text)
