-- `show`, `local` and `pair` have one reply.
use Rattle.std.proofs.Common.{◌≡◌, ◌∙◌, ℕ, List, Option, Result, Ok, Err, ap, ap₂, sym, subst, inl, inr}
use Rattle.sq_angle.proofs.OnePosition.{one_position}
use Rattle.sq_angle.proofs.OneReading.{one_angle}
use Rattle.sq_message.specs.declared.place.Place.{Place}
use Rattle.sq_message.specs.declared.place.PlaceFault.{PlaceFault}
use Rattle.sq_message.specs.declared.squitter.Squitter.{Squitter}
use Rattle.sq_message.specs.Parts.{squitter_parts}
use Rattle.sq_message.specs.Places.{IsLocalPlace, IsPairPlace}
use Rattle.sq_message.proofs.OnePlace.{one_local_place, one_pair_place}
use Rattle.sq_text.specs.declared.faults.LineFault.{LineFault}
use Rattle.sq_text.specs.Place.{IsPlaceText}
use Rattle.sq_text.specs.Reading.{IsSquitterReading}
use Rattle.sq_text.specs.Show.{IsShown}
use Rattle.sq_text.proofs.OneReading.{one_squitter_reading, one_text}
use Rattle.sq_text.proofs.PlaceTexts.{one_place_text}
use Rattle.sq_commands.specs.Arguments.{IsPositionReading, IsSiteReading}
use Rattle.sq_commands.specs.Faults.{misused}
use Rattle.sq_commands.specs.Frames.{AreReadingsOf, frame_refused}
use Rattle.sq_commands.specs.Local.{IsDecodingReply, IsFrameNearReply, IsLocalReply, IsNearReply}
use Rattle.sq_commands.specs.Local.{IsTextOf, place_refused}
use Rattle.sq_commands.specs.Pair.{IsFramesReply, IsPairReply, IsPairedReply}
use Rattle.sq_commands.specs.Replies.{IsAnswer}
use Rattle.sq_commands.specs.Show.{IsShowReply}
use Rattle.sq_commands.proofs.SoundReplies.{IsSound, sound_answer, sound_reply}
use Rattle.sq_commands.proofs.OneRuns.Words.{one_position_reading, one_site_reading}

-- ---- readings

-- a text is read as one squitter
one_squitter : (text : List ℕ) (x y : Squitter) → IsSquitterReading text (Ok x) → IsSquitterReading text (Ok y) → x ≡ y
one_squitter text x y h k =
    let same : ◌≡◌ {A = Result Squitter LineFault} (Ok x) (Ok y) = one_squitter_reading text (Ok x) (Ok y) h k in
    cc same

-- a text that is read as a squitter has no fault
good_text : (text : List ℕ) (x : Squitter) (fault : LineFault) → IsSquitterReading text (Ok x)
    → IsSquitterReading text (Err fault) → ⊥
good_text text x fault h k =
    let same : ◌≡◌ {A = Result Squitter LineFault} (Ok x) (Err fault) = one_squitter_reading text (Ok x) (Err fault)
    h k in absurd (cc same)

-- a text has one fault
one_fault : (text : List ℕ) (f g : LineFault) → IsSquitterReading text (Err f) → IsSquitterReading text (Err g) → f ≡ g
one_fault text f g h k =
    let same : ◌≡◌ {A = Result Squitter LineFault} (Err f) (Err g) = one_squitter_reading text (Err f) (Err g) h k in
    cc same

-- two texts have one first fault
one_first_fault : (older newer : List ℕ) (f g : LineFault) → AreReadingsOf older newer (Err f)
    → AreReadingsOf older newer (Err g) → f ≡ g
one_first_fault older newer f g (inl h) (inl k) = one_fault older f g h k
one_first_fault older newer f g (inl h) (inr (x, reads, k)) = absurd (good_text older x f reads h)
one_first_fault older newer f g (inr (x, reads, h)) (inl k) = absurd (good_text older x g reads k)
one_first_fault older newer f g (inr (x, _, h)) (inr (y, _, k)) = one_fault newer f g h k

-- two texts that are read as squitters have no fault
good_texts : (older newer : List ℕ) (x y : Squitter) (fault : LineFault) → IsSquitterReading older (Ok x)
    → IsSquitterReading newer (Ok y) → AreReadingsOf older newer (Err fault) → ⊥
good_texts older newer x y fault h k (inl bad) = good_text older x fault h bad
good_texts older newer x y fault h k (inr (z, reads, bad)) = good_text newer y fault k bad

-- two texts are read in one way
one_of_two : (older newer : List ℕ) (r s : Result (Squitter × Squitter) LineFault) → AreReadingsOf older newer r
    → AreReadingsOf older newer s → r ≡ s
one_of_two older newer (Ok (x, y)) (Ok (v, w)) h k =
    ap₂ (λ (q t : Squitter). Ok (q, t)) (one_squitter older x v h.0 k.0) (one_squitter newer y w h.1 k.1)
one_of_two older newer (Ok (x, y)) (Err fault) h k = absurd (good_texts older newer x y fault h.0 h.1 k)
one_of_two older newer (Err fault) (Ok (v, w)) h k = absurd (good_texts older newer v w fault k.0 k.1 h)
one_of_two older newer (Err f) (Err g) h k = ap Err (one_first_fault older newer f g h k)

-- a place has one text
one_text_of : (place : Place) (s t : List ℕ) → IsTextOf place s → IsTextOf place t → s ≡ t
one_text_of place s t (x, x_is, h) (y, y_is, k) =
    let same = one_position x y (one_angle x.lat y.lat (x_is.lat ∙ sym y_is.lat))
    (one_angle x.lon y.lon (x_is.lon ∙ sym y_is.lon)) in
    one_place_text x s t h (subst (λ z. IsPlaceText z t) (sym same) k)

-- ---- replies

pub sound_show : (frame : List ℕ) → IsSound (IsShowReply frame)
sound_show frame =
    sound_reply (IsSquitterReading frame) (λ squitter. IsAnswer (IsShown squitter)) frame_refused
    (one_squitter_reading frame) (λ fault is. cc is) (λ squitter. sound_answer (IsShown squitter) (one_text squitter))

sound_decoding : (Decodes : Result Place PlaceFault → Type 0)
    → ((r s : Result Place PlaceFault) → Decodes r → Decodes s → r ≡ s) → IsSound (IsDecodingReply Decodes)
sound_decoding Decodes one =
    sound_reply Decodes (λ place. IsAnswer (IsTextOf place)) place_refused one (λ fault is. cc is)
    (λ place. sound_answer (IsTextOf place) (one_text_of place))

pub sound_local : (frame lat lon : List ℕ) → IsSound (IsLocalReply frame lat lon)
sound_local frame lat lon =
    sound_reply (IsPositionReading lat lon) (IsFrameNearReply frame) misused (one_position_reading lat lon)
    (λ fault is. cc is)
    (λ reference. sound_reply (IsSquitterReading frame) (IsNearReply reference) frame_refused
    (one_squitter_reading frame) (λ fault is. cc is)
    (λ squitter. sound_decoding (IsLocalPlace (squitter_parts squitter).me reference)
    (one_local_place squitter reference)))

pub sound_pair : (older newer : List ℕ) (lat lon : Option (List ℕ)) → IsSound (IsPairReply older newer lat lon)
sound_pair older newer lat lon =
    sound_reply (IsSiteReading lat lon) (IsFramesReply older newer) misused (one_site_reading lat lon)
    (λ fault is. cc is)
    (λ site. sound_reply (AreReadingsOf older newer) (IsPairedReply site) frame_refused (one_of_two older newer)
    (λ fault is. cc is)
    (λ both. sound_decoding (IsPairPlace (squitter_parts both.0) (squitter_parts both.1) site)
    (one_pair_place both.0 both.1 site)))
