-- Decoding texts has at most one result.
use Rattle.std.proofs.Common.{◌≡◌, ◌∙◌, ℕ, List, Option, Result, Ok, Err, inl, inr, ap, refl, sym, subst}
use Rattle.sq_angle.specs.declared.position.Position.{Position}
use Rattle.sq_message.specs.declared.place.Place.{Place}
use Rattle.sq_message.specs.declared.place.PlaceFault.{PlaceFault}
use Rattle.sq_message.specs.declared.squitter.Squitter.{Squitter}
use Rattle.sq_message.specs.Parts.{squitter_parts}
use Rattle.sq_message.specs.Places.{IsLocalPlace, IsPairPlace}
use Rattle.sq_message.proofs.OnePlace.{one_local_place, one_pair_place}
use Rattle.sq_text.specs.declared.faults.LineFault.{LineFault}
use Rattle.sq_text.specs.Reading.{IsSquitterReading}
use Rattle.sq_text.proofs.OneReading.{one_squitter_reading}
use Rattle.example_place.specs.declared.fault.Fault.{Fault}
use Rattle.example_place.specs.declared.fault.Fault.TheVariants.{OfPlace, OfText}
use Rattle.example_place.specs.Laws.{OneAnswerNear, OneAnswerOfPair, OneTrueAnswerInAir, OneTrueAnswerOnGround}
use Rattle.example_place.specs.Places.{IsPairOfTexts, IsPlaceOfText}

-- the result for a place or a place error
abbrev Placed : Result Place PlaceFault → Result Place Fault → Type 0
Placed (Ok place) answer = answer ≡ Ok place
Placed (Err fault) answer = answer ≡ Err (OfPlace fault)

one_placed : (found : Result Place PlaceFault) (a b : Result Place Fault) → Placed found a → Placed found b → a ≡ b
one_placed (Ok place) a b h k = h ∙ sym k
one_placed (Err fault) a b h k = h ∙ sym k

-- the result for a reading of a text: `Next` for its squitter, or the error of the text
abbrev OfRead : (Squitter → Result Place Fault → Type 0) → Result Squitter LineFault → Result Place Fault → Type 0
OfRead Next (Ok q) answer = Next q answer
OfRead Next (Err fault) answer = answer ≡ Err (OfText fault)

one_of_read : (Next : Squitter → Result Place Fault → Type 0) (read : Result Squitter LineFault)
    (a b : Result Place Fault) → ((q : Squitter) → Next q a → Next q b → a ≡ b)
    → OfRead Next read a → OfRead Next read b → a ≡ b
one_of_read Next (Ok q) a b one h k = one q h k
one_of_read Next (Err fault) a b one h k = h ∙ sym k

abbrev OfLine : List ℕ → (Squitter → Result Place Fault → Type 0) → Result Place Fault → Type 0
OfLine text Next answer = (read : Result Squitter LineFault) × IsSquitterReading text read × OfRead Next read answer

one_of_line : (text : List ℕ) (Next : Squitter → Result Place Fault → Type 0) (a b : Result Place Fault)
    → ((q : Squitter) → Next q a → Next q b → a ≡ b) → OfLine text Next a → OfLine text Next b → a ≡ b
one_of_line text Next a b one (r, r_is, h) (s, s_is, k) =
    one_of_read Next r a b one h
    (subst (λ t. OfRead Next t b) (one_squitter_reading text s r s_is r_is) k)

-- ---- near a reference

abbrev Near : Position → Squitter → Result Place Fault → Type 0
Near reference q answer = (found : Result Place PlaceFault) × IsLocalPlace (squitter_parts q).me reference found
    × Placed found answer

one_near : (reference : Position) (a b : Result Place Fault) (q : Squitter) → Near reference q a → Near reference q b
    → a ≡ b
one_near reference a b q (r, r_is, h) (s, s_is, k) =
    one_placed r a b h (subst (λ t. Placed t b) (one_local_place q reference s r s_is r_is) k)

of_near : (text : List ℕ) (reference : Position) (a : Result Place Fault) → IsPlaceOfText text reference a
    → OfLine text (Near reference) a
of_near text reference (Ok place) (q, q_is, local) = (Ok q, q_is, (Ok place, local, refl))
of_near text reference (Err fault) (inl (e, e_is, is)) = (Err e, e_is, ap Err is)
of_near text reference (Err fault) (inr (q, e, q_is, local, is)) = (Ok q, q_is, (Err e, local, ap Err is))

pub one_answer_near : OneAnswerNear
one_answer_near text reference a b h k =
    one_of_line text (Near reference) a b (one_near reference a b) (of_near text reference a h)
    (of_near text reference b k)

-- ---- of a pair

abbrev OfBoth : Option Position → Squitter → Squitter → Result Place Fault → Type 0
OfBoth site first second answer =
    (found : Result Place PlaceFault) × IsPairPlace (squitter_parts first) (squitter_parts second) site found
    × Placed found answer

one_of_both : (site : Option Position) (a b : Result Place Fault) (first second : Squitter)
    → OfBoth site first second a → OfBoth site first second b → a ≡ b
one_of_both site a b first second (r, r_is, h) (s, s_is, k) =
    one_placed r a b h (subst (λ t. Placed t b) (one_pair_place first second site s r s_is r_is) k)

-- the newer text is read after the older one
abbrev AfterFirst : List ℕ → Option Position → Squitter → Result Place Fault → Type 0
AfterFirst newer site first answer = OfLine newer (OfBoth site first) answer

one_after_first : (newer : List ℕ) (site : Option Position) (a b : Result Place Fault) (first : Squitter)
    → AfterFirst newer site first a → AfterFirst newer site first b → a ≡ b
one_after_first newer site a b first = one_of_line newer (OfBoth site first) a b (one_of_both site a b first)

of_pair : (older newer : List ℕ) (site : Option Position) (a : Result Place Fault) → IsPairOfTexts older newer site a
    → OfLine older (AfterFirst newer site) a
of_pair older newer site (Ok place) (q, r, q_is, r_is, pair) = (Ok q, q_is, (Ok r, r_is, (Ok place, pair, refl)))
of_pair older newer site (Err fault) (inl (e, e_is, is)) = (Err e, e_is, ap Err is)
of_pair older newer site (Err fault) (inr (inl (q, e, q_is, e_is, is))) = (Ok q, q_is, (Err e, e_is, ap Err is))
of_pair older newer site (Err fault) (inr (inr (q, r, e, q_is, r_is, pair, is))) =
    (Ok q, q_is, (Ok r, r_is, (Err e, pair, ap Err is)))

pub one_answer_of_pair : OneAnswerOfPair
one_answer_of_pair older newer site a b h k =
    one_of_line older (AfterFirst newer site) a b (one_after_first newer site a b) (of_pair older newer site a h)
    (of_pair older newer site b k)

-- ---- frames that were sent

pub one_true_in_air : OneTrueAnswerInAir
one_true_in_air text reference x head parity point frame a b of_text sent near h k =
    h head parity x point frame of_text sent near ∙ sym (k head parity x point frame of_text sent near)

pub one_true_on_ground : OneTrueAnswerOnGround
one_true_on_ground text reference x head parity point frame a b of_text sent near h k =
    h head parity x point frame of_text sent near ∙ sym (k head parity x point frame of_text sent near)
