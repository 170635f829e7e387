-- Each text has a result, and a reading as a squitter.
use Rattle.std.proofs.Common.{◌≡◌, ◌⊎◌, ◌+◌, ℕ, List, [], ◌∷◌, ◌++◌, length, get_or, Result, Ok, Err, refl, sym, ◌∙◌}
use Rattle.std.proofs.Common.{ap, inl, inr, arith}
use Rattle.std.proofs.lemmas.Bool.{cases_eq}
use Rattle.std.proofs.lemmas.List.{same_from_push}
use Rattle.hex.specs.Hex.{decode_of}
use Rattle.hex.specs.declared.error.FromHexError.{FromHexError}
use Rattle.hex.proofs.HexLemmas.{decode_of-ok, decode_of-err}
use Rattle.sq_bits.specs.declared.frame.Frame.{Frame}
use Rattle.sq_bits.specs.Frames.{IsFrame}
use Rattle.sq_bits.proofs.BitLaws.{AllBelowBase-each}
use Rattle.sq_message.specs.declared.squitter.Squitter.{Squitter}
use Rattle.sq_message.specs.declared.squitter.FrameFault.{FrameFault}
use Rattle.sq_message.specs.Spelling.{IsReading}
use Rattle.sq_message.proofs.SomeReading.{some_reading}
use Rattle.sq_text.specs.declared.frame_text.TextFault.{TextFault}
use Rattle.sq_text.specs.declared.frame_text.TextFault.TheVariants.{Wrap, Short, Length, Digit}
use Rattle.sq_text.specs.declared.faults.LineFault.{LineFault}
use Rattle.sq_text.specs.Faults.{of_text, of_frame}
use Rattle.sq_text.specs.FrameText.{Begins, Ends, IsBody, IsHalfWrapped, IsFrameText, IsFrameReading}
use Rattle.sq_text.specs.Reading.{IsSquitterReading}

-- a text begins with `*` or does not
begins : (text : List ℕ) → Begins text ⊎ (¬ (Begins text))
begins [] = inr (λ (rest, is). absurd (cc is))
begins (c ∷ rest) = elim (cases_eq c 42) [
  | inl star ↦ inl (rest, ap (λ x. x ∷ rest) star)
  | inr other ↦ inr (λ (rest', is). other (ap (λ l. get_or l 0 0) is))
]

-- a text that is not empty has a last byte
last_of : (c : ℕ) (rest : List ℕ) → (front : List ℕ) × (last : ℕ) × (c ∷ rest ≡ front ++ last ∷ [])
last_of c [] = ([], c, refl)
last_of c (d ∷ rest) = let more = last_of d rest in (c ∷ more.0, more.1, ap (λ l. c ∷ l) more.2)

-- a text ends with `;` or does not
ends : (text : List ℕ) → Ends text ⊎ (¬ (Ends text))
ends [] = inr none
  where
    none : Ends [] → ⊥
    none ([], is) = absurd (cc is)
    none (c ∷ front, is) = absurd (cc is)
ends (c ∷ rest) =
    let last = last_of c rest in
    elim (cases_eq last.1 59) [
      | inl semicolon ↦ inl (last.0, last.2 ∙ ap (λ x. last.0 ++ x ∷ []) semicolon)
      | inr other ↦ inr (λ (front, is). other (same_from_push last.0 front last.1 59 (sym last.2 ∙ is)).1)
    ]

-- a text with both `*` and `;` has a body between them
between : (rest front : List ℕ) → 42 ∷ rest ≡ front ++ 59 ∷ [] → (body : List ℕ) × (42 ∷ rest ≡ 42 ∷ (body ++ 59 ∷ []))
between rest [] is = absurd (omega (arith, ap (λ l. get_or l 0 0) is))
between rest (c ∷ front) is =
    let star : 42 ≡ c = ap (λ l. get_or l 0 0) is in
    (front, is ∙ ap (λ x. x ∷ (front ++ 59 ∷ [])) (sym star))

-- a text has a body, or it is half wrapped
some_body : (text : List ℕ) → ((body : List ℕ) × IsBody text body) ⊎ IsHalfWrapped text
some_body text = elim (begins text) [
  | inl (rest, first) ↦ elim (ends text) [
    | inl (front, last) ↦
        let body = between rest front (sym first ∙ last) in
        inl (body.0, inl (first ∙ body.1))
    | inr unended ↦ inr (inl ((rest, first), unended))
  ]
  | inr unbegun ↦ elim (ends text) [
    | inl last ↦ inr (inr (last, unbegun))
    | inr unended ↦ inl (text, inr (unbegun, unended, refl))
  ]
]

-- 28 bytes are the digits of a frame, or one of them is bad
some_digits : (text body : List ℕ) → IsBody text body → length body ≡ 28 → (r : Result (List ℕ) FromHexError)
    → decode_of body ≡ r
    → (answer : Result Frame TextFault) × IsFrameReading text answer
some_digits text body is long (Ok bytes) gives = (Ok (record { 0 = bytes }), (body, is, long, gives))
some_digits text body is long (Err e) gives = elim (decode_of-err body e gives) [
  | inl odd ↦ absurd (omega arith)
  | inr bad ↦ (Err (Digit (bad.0 + 1)), (body, is, long, (bad.0, refl, (bad.2, bad.3, bad.4))))
]

pub some_answer : (text : List ℕ) → (answer : Result Frame TextFault) × IsFrameReading text answer
some_answer text = elim (some_body text) [
  | inr half ↦ (Err Wrap, half)
  | inl (body, is) ↦ elim (cases_eq (length body) 28) [
    | inl long ↦ some_digits text body is long (decode_of body) refl
    | inr other ↦ elim (cases_eq (length body) 14) [
      | inl short ↦ (Err Short, (body, is, short))
      | inr neither ↦ (Err (Length (length body)), (body, is, refl, neither, other))
    ]
  ]
]

-- the frame of a frame text is 14 bytes
frame_is : (text : List ℕ) (frame : Frame) → IsFrameText text frame → IsFrame frame
frame_is text frame (body, is, long, gives) =
    let ok = decode_of-ok body frame.0 gives in
    (omega (arith, ok.2, long), AllBelowBase-each frame.0 ok.3)

of_answer : (text : List ℕ) (answer : Result Frame TextFault) → IsFrameReading text answer
    → (r : Result Squitter LineFault) × IsSquitterReading text r
of_answer text (Err e) is = (Err (of_text e), inl (e, is, refl))
of_answer text (Ok frame) is = of_reading text frame is (some_reading frame (frame_is text frame is))
  where
    of_reading : (text : List ℕ) (frame : Frame) → IsFrameText text frame
        → (r : Result Squitter FrameFault) × IsReading frame r
        → (r : Result Squitter LineFault) × IsSquitterReading text r
    of_reading text frame is (Ok q, spells) = (Ok q, (frame, is, spells))
    of_reading text frame is (Err e, fault) = (Err (of_frame e), inr (frame, e, is, fault, refl))

pub some_squitter_reading : (text : List ℕ) → (r : Result Squitter LineFault) × IsSquitterReading text r
some_squitter_reading text = let answer = some_answer text in of_answer text answer.0 answer.1
