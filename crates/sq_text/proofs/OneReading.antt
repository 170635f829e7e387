-- A text has at most one reading as a squitter, and a squitter at most one text.
use Rattle.std.proofs.Common.{◌≡◌, ℕ, List, ◌++◌, Result, Ok, Err, sym, ◌∙◌, ap, subst, inl, inr}
use Rattle.sq_message.specs.declared.squitter.Squitter.{Squitter}
use Rattle.sq_message.specs.declared.squitter.Me.{Me}
use Rattle.sq_message.specs.declared.squitter.Me.TheVariants as kinds
use Rattle.sq_message.specs.Parts.{air_parts, squitter_parts}
use Rattle.sq_message.specs.Spelling.{Spells, IsFault}
use Rattle.sq_message.proofs.One.{one_squitter, no_fault as no_frame_fault, same_fault as same_frame_fault}
use Rattle.sq_message.proofs.FeetLemmas.{one_altitude}
use Rattle.sq_text.specs.declared.faults.LineFault.{LineFault}
use Rattle.sq_text.specs.Faults.{of_text, of_frame}
use Rattle.sq_text.specs.Reading.{IsSquitterText, IsSquitterFault, IsSquitterReading}
use Rattle.sq_text.specs.Show.{IsShown, IsShownMe, airborne_lines, head_lines}
use Rattle.sq_text.proofs.One.{same_text, no_fault, same_fault}

-- a text encodes at most one squitter
one_text_squitter : (text : List ℕ) (p q : Squitter) → IsSquitterText text p → IsSquitterText text q → p ≡ q
one_text_squitter text p q (f, x, is) (g, y, is') =
    one_squitter g p q (subst (λ h. Spells h p) (same_text text f g x y) is) is'

-- a text that encodes a squitter has no error
no_squitter_fault : (text : List ℕ) (q : Squitter) (fault : LineFault) → IsSquitterText text q
    → IsSquitterFault text fault → ⊥
no_squitter_fault text q fault (f, x, is) (inl (e, bad, _)) = no_fault text f e x bad
no_squitter_fault text q fault (f, x, is) (inr (g, e, y, bad, _)) =
    no_frame_fault g q e (subst (λ h. Spells h q) (same_text text f g x y) is) bad

-- a text has at most one error
one_squitter_fault : (text : List ℕ) (a b : LineFault) → IsSquitterFault text a → IsSquitterFault text b → a ≡ b
one_squitter_fault text a b (inl (d, x, is)) (inl (e, y, is')) = is ∙ ap of_text (same_fault text d e x y) ∙ sym is'
one_squitter_fault text a b (inl (d, x, is)) (inr (g, e, y, bad, is')) = absurd (no_fault text g d y x)
one_squitter_fault text a b (inr (f, d, x, bad, is)) (inl (e, y, is')) = absurd (no_fault text f e x y)
one_squitter_fault text a b (inr (f, d, x, bad, is)) (inr (g, e, y, bad', is')) =
    is ∙ ap of_frame (same_frame_fault g d e (subst (λ h. IsFault h d) (same_text text f g x y) bad) bad') ∙ sym is'

pub one_squitter_reading : (text : List ℕ) (r s : Result Squitter LineFault) → IsSquitterReading text r
    → IsSquitterReading text s → r ≡ s
one_squitter_reading text (Ok p) (Ok q) x y = ap Ok (one_text_squitter text p q x y)
one_squitter_reading text (Ok p) (Err e) x y = absurd (no_squitter_fault text p e x y)
one_squitter_reading text (Err d) (Ok q) x y = absurd (no_squitter_fault text q d y x)
one_squitter_reading text (Err d) (Err e) x y = ap Err (one_squitter_fault text d e x y)

-- a message is shown as at most one text
one_me_text : (me : Me) (a b : List ℕ) → IsShownMe me a → IsShownMe me b → a ≡ b
one_me_text (kinds.Airborne airborne) a b (m, x, is) (n, y, is') =
    let fields = air_parts airborne.fields in
    is ∙ ap (airborne_lines airborne) (one_altitude fields.type_code fields.altitude m n x y) ∙ sym is'
one_me_text (kinds.Surface surface) a b x y = x ∙ sym y
one_me_text (kinds.Other other) a b x y = x ∙ sym y

pub one_text : (squitter : Squitter) (a b : List ℕ) → IsShown squitter a → IsShown squitter b → a ≡ b
one_text squitter a b (r, x, is) (s, y, is') =
    is ∙ ap (λ rest. head_lines (squitter_parts squitter) ++ rest) (one_me_text (squitter_parts squitter).me r s x y)
    ∙ sym is'
