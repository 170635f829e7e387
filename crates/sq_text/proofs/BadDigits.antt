-- The errors of `hex` on 28 bytes.
use Rattle.std.proofs.Common.{◌≡◌, ◌+◌, ℕ, List, length, Result, Ok, Err, MatchResult, sym, ◌∙◌, ap, arith, inl, inr}
use Rattle.std.specs.Prelude.{slice_index}
use Rattle.hex.specs.Hex.{decode_of, decode_sized}
use Rattle.hex.specs.declared.error.FromHexError.{FromHexError}
use Rattle.hex.specs.declared.error.FromHexError.TheVariants.{InvalidHexCharacter}
use Rattle.hex.proofs.HexLemmas.{decode_of-err, decode_sized-twice}
use Rattle.sq_text.specs.FrameText.{IsFirstBadDigit}

-- the returned error is the one that the text gives
pub err_of : (new : List ℕ) (r : Result (List ℕ) FromHexError) (answer : Result (Unit {0}) FromHexError)
    (e : FromHexError)
    → MatchResult r (λ bytes. (answer ≡ Ok tt) × (new ≡ bytes)) (λ f. answer ≡ Err f) → answer ≡ Err e → r ≡ Err e
err_of new (Ok bytes) answer e h is = absurd (cc (sym h.0 ∙ is))
err_of new (Err f) answer e h is =
    let same : f ≡ e = cc (sym h ∙ is) in
    ap Err same

-- an error names the first bad digit
pub bad_digit : (body new : List ℕ) (answer : Result (Unit {0}) FromHexError) (e : FromHexError) → length body ≡ 28
    → MatchResult (decode_sized body 14) (λ bytes. (answer ≡ Ok tt) × (new ≡ bytes)) (λ f. answer ≡ Err f)
    → answer ≡ Err e
    → (k : ℕ) × (c : ℕ) × (e ≡ InvalidHexCharacter c k) × IsFirstBadDigit body k
bad_digit body new answer e long h is =
    let gives : decode_of body ≡ Err e =
    sym (decode_sized-twice body 14 long) ∙ err_of new (decode_sized body 14) answer e h is in
    elim (decode_of-err body e gives) [
      | inl odd ↦ absurd (omega arith)
      | inr bad ↦
          let place : 0 + bad.0 ≡ bad.0 = omega arith in (
            bad.0,
            slice_index body bad.0,
            bad.1
                ∙ ap (InvalidHexCharacter (slice_index body bad.0)) place,
            (bad.2, bad.3, bad.4),
          )
    ]
