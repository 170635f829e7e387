-- A frame sent from a position decodes to the point to which the position rounds, by the headline.
use Rattle.std.proofs.Common.{◌≡◌, ◌∙◌, ℕ, List, subst, ap, inl, inr}
use Rattle.std.specs.Prelude.{Result, Ok, Err}
use Rattle.sq_bits.specs.declared.frame.Frame.{Frame}
use Rattle.sq_angle.specs.declared.position.Position.{Position}
use Rattle.sq_message.specs.declared.place.Place.{Place}
use Rattle.sq_message.specs.declared.place.PlaceFault.{PlaceFault}
use Rattle.sq_message.specs.declared.squitter.Squitter.{Squitter}
use Rattle.sq_message.specs.Kinds.{InAir, OnGround}
use Rattle.sq_message.specs.Headline.{IsReadNear, NearReference}
use Rattle.sq_message.specs.Parts.{squitter_parts}
use Rattle.sq_message.specs.Places.{IsLocalPlace}
use Rattle.sq_message.specs.Spelling.{Spells}
use Rattle.sq_text.specs.declared.faults.LineFault.{LineFault}
use Rattle.sq_text.specs.FrameText.{IsFrameText}
use Rattle.sq_text.specs.Reading.{IsSquitterReading}
use Rattle.example_place.specs.declared.fault.Fault.{Fault}
use Rattle.example_place.specs.Places.{IsPlaceOfText, IsTrueInAir, IsTrueOnGround}

-- a text has at most one reading
abbrev pub OneReading : Type 0
OneReading = (text : List ℕ) (r s : Result Squitter LineFault) → IsSquitterReading text r → IsSquitterReading text s
    → r ≡ s

-- equality of two readings, of two decoded places and of two results
abbrev Same : (r s : Result Squitter LineFault) → Type 0
Same r s = r ≡ s

abbrev SamePlace : (r s : Result Place PlaceFault) → Type 0
SamePlace r s = r ≡ s

abbrev SameAnswer : (r s : Result Place Fault) → Type 0
SameAnswer r s = r ≡ s

same_squitter : {E : Type 0} (a b : Squitter) → ◌≡◌ {A = Result Squitter E} (Ok a) (Ok b) → a ≡ b
same_squitter a b is = cc

same_answer : (a b : Place) → SamePlace (Ok a) (Ok b) → SameAnswer (Ok a) (Ok b)
same_answer a b is = let same : a ≡ b = cc in ap Ok same

no_reading : (a : LineFault) (b : Squitter) → Same (Err a) (Ok b) → ⊥
no_reading a b is = cc

no_place : (a : PlaceFault) (b : Place) → SamePlace (Err a) (Ok b) → ⊥
no_place a b is = cc

-- the text of a frame that is read near the reference as a place decodes to this place
pub place_of_read : OneReading
    → (text : List ℕ) (reference : Position) (frame : Frame) (squitter : Squitter) (place : Place)
    (answer : Result Place Fault)
    → IsFrameText text frame → Spells frame squitter → IsReadNear frame reference place
    → IsPlaceOfText text reference answer → answer ≡ Ok place
place_of_read one text reference frame squitter place (Ok found) of_text spelled near h =
    let r = near (Ok squitter) spelled in
    let same = same_squitter h.0 squitter (one text (Ok h.0) (Ok squitter) h.1 (frame, of_text, spelled))
    ∙ same_squitter squitter r.0 r.1 in
    same_answer found place (r.2 (Ok found)
    (subst (λ q. IsLocalPlace (squitter_parts q).me reference (Ok found)) same h.2))
place_of_read one text reference frame squitter place (Err fault) of_text spelled near h = elim h [
  | inl a ↦ absurd (no_reading a.0 squitter (one text (Err a.0) (Ok squitter) a.1 (frame, of_text, spelled)))
  | inr b ↦
      let r = near (Ok squitter) spelled in
      let same = same_squitter b.0 squitter (one text (Ok b.0) (Ok squitter) b.2 (frame, of_text, spelled))
      ∙ same_squitter squitter r.0 r.1 in
      absurd (no_place b.1 place (r.2 (Err b.1)
      (subst (λ q. IsLocalPlace (squitter_parts q).me reference (Err b.1)) same b.3)))
]

pub true_in_air : NearReference InAir → OneReading → (text : List ℕ) (reference : Position)
    (answer : Result Place Fault)
    → IsPlaceOfText text reference answer → IsTrueInAir text reference answer
true_in_air near one text reference answer h head parity position point frame of_text sent close =
    place_of_read one text reference frame sent.squitter _ answer of_text sent.spelled
    (near head parity position reference point frame sent close) h

pub true_on_ground : NearReference OnGround → OneReading
    → (text : List ℕ) (reference : Position) (answer : Result Place Fault)
    → IsPlaceOfText text reference answer → IsTrueOnGround text reference answer
true_on_ground near one text reference answer h head parity position point frame of_text sent close =
    place_of_read one text reference frame sent.squitter _ answer of_text sent.spelled
    (near head parity position reference point frame sent close) h
