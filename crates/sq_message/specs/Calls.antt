-- The results of calls made in sequence: reading a frame, decoding its squitter and sending the place.
use Rattle.std.specs.Prelude.{◌≡◌, Option, Result, Ok}
use Rattle.sq_bits.specs.declared.frame.Frame.{Frame}
use Rattle.sq_angle.specs.declared.position.Position.{Position}
use Rattle.sq_zones.specs.declared.parity.Parity.{Parity}
use Rattle.sq_cpr.specs.Pair.{of_parity}
use Rattle.sq_message.specs.declared.squitter.Squitter.{Squitter}
use Rattle.sq_message.specs.declared.place.Place.{Place}
use Rattle.sq_message.specs.declared.place.PlaceFault.{PlaceFault}
use Rattle.sq_message.specs.Parts.{squitter_parts}
use Rattle.sq_message.specs.Places.{IsDecoded, IsLocalPlace, IsPairPlace, IsSentAt}
use Rattle.sq_message.specs.Spelling.{IsReading, Spells}

-- the result of decoding two squitters as a pair
abbrev pub IsPlaceOfPair : (older newer : Squitter) → Option Position → Result Place PlaceFault → Type 0
IsPlaceOfPair older newer site answer = IsPairPlace (squitter_parts older) (squitter_parts newer) site answer

-- the frame is read as a squitter, and `answer` is the result of decoding it near the reference
abbrev pub IsAnswerNear : Frame → Position → Result Place PlaceFault → Type 0
IsAnswerNear frame reference answer =
    (squitter : Squitter) × IsReading frame (Ok squitter) × IsLocalPlace (squitter_parts squitter).me reference answer

-- both frames are read as squitters, and `answer` is the result of decoding them; `newest` is the parity of the newer
abbrev pub IsAnswerOfPair : Parity → (even odd : Frame) → Option Position → Result Place PlaceFault → Type 0
IsAnswerOfPair newest even odd site answer =
    (p q : Squitter) × IsReading even (Ok p) × IsReading odd (Ok q)
    × IsPlaceOfPair (of_parity newest q p) (of_parity newest p q) site answer

-- the older frame is read as a squitter, and that squitter and the newer one decode as a pair to this place
abbrev pub IsPlaceOfNewer : Frame → Squitter → Option Position → Place → Type 0
IsPlaceOfNewer older newer site place =
    (earlier : Squitter) × IsReading older (Ok earlier) × IsPlaceOfPair earlier newer site (Ok place)

-- no squitter read from the frame decodes to a place near the reference
abbrev pub HasNoPlaceNear : Frame → Position → Type 0
HasNoPlaceNear frame reference =
    (squitter : Squitter) (place : Place) → IsReading frame (Ok squitter)
    → ¬ IsLocalPlace (squitter_parts squitter).me reference (Ok place)

-- no squitters read from the two frames decode as a pair to a place
abbrev pub HaveNoPlace : (older newer : Frame) → Option Position → Type 0
HaveNoPlace older newer site =
    (p q : Squitter) (place : Place) → IsReading older (Ok p) → IsReading newer (Ok q)
    → ¬ IsPlaceOfPair p q site (Ok place)

-- the frame is read as this squitter, and sending the place writes `again`, which is the same frame
pub record IsSentAgain (frame : Frame) (squitter : Squitter) (place : Place) (again : Frame) : Type 0 where
  pub read : IsReading frame (Ok squitter)
  pub sent : Squitter
  pub of_place : IsSentAt (squitter_parts squitter) place (squitter_parts sent)
  pub written : Spells again sent
  pub same : again ≡ frame

-- sending a place that a squitter decodes to gives that squitter
abbrev pub DecodedIsSentAgain : Type 0
DecodedIsSentAgain =
    (squitter sent : Squitter) (place : Place) → IsDecoded (squitter_parts squitter) place
    → IsSentAt (squitter_parts squitter) place (squitter_parts sent) → sent ≡ squitter
