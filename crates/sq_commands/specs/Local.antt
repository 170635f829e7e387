-- The command `local`, and the text of a place.
use Rattle.std.specs.Prelude.{ℕ, List, Result}
use Rattle.sq_angle.specs.declared.position.Position.{Position}
use Rattle.sq_message.specs.declared.place.Place.{Place}
use Rattle.sq_message.specs.declared.place.PlaceFault.{PlaceFault}
use Rattle.sq_message.specs.declared.squitter.Squitter.{Squitter}
use Rattle.sq_message.specs.Faults.{place_fault_text}
use Rattle.sq_message.specs.Parts.{squitter_parts}
use Rattle.sq_message.specs.Places.{IsLocalPlace, IsPositionOf}
use Rattle.sq_text.specs.Place.{IsPlaceText}
use Rattle.sq_text.specs.Reading.{IsSquitterReading}
use Rattle.sq_commands.specs.declared.status.Status.TheVariants.{Refused}
use Rattle.sq_commands.specs.Arguments.{IsPositionReading}
use Rattle.sq_commands.specs.Faults.{misused}
use Rattle.sq_commands.specs.Frames.{frame_refused}
use Rattle.sq_commands.specs.Replies.{IsAnswer, IsReplyTo, ReplyParts, reporting}

-- the text is the two lines of the place's position
abbrev pub IsTextOf : Place → List ℕ → Type 0
IsTextOf place text = (position : Position) × IsPositionOf place position × IsPlaceText position text

-- the reply to squitters without a place
abbrev pub place_refused : PlaceFault → ReplyParts
place_refused fault = reporting Refused (place_fault_text fault)

-- the reply is the place, or why there is none
abbrev pub IsDecodingReply : (Result Place PlaceFault → Type 0) → ReplyParts → Type 0
IsDecodingReply Decodes = IsReplyTo Decodes (λ place. IsAnswer (IsTextOf place)) place_refused

-- the reply is the place of the squitter near the reference
abbrev pub IsNearReply : Position → Squitter → ReplyParts → Type 0
IsNearReply reference squitter = IsDecodingReply (IsLocalPlace (squitter_parts squitter).me reference)

-- the reply to a frame text, decoded near the reference
abbrev pub IsFrameNearReply : List ℕ → Position → ReplyParts → Type 0
IsFrameNearReply frame reference = IsReplyTo (IsSquitterReading frame) (IsNearReply reference) frame_refused

-- the frame is decoded near the reference that the words spell; the arguments are read before the frame
abbrev pub IsLocalReply : (frame lat lon : List ℕ) → ReplyParts → Type 0
IsLocalReply frame lat lon = IsReplyTo (IsPositionReading lat lon) (IsFrameNearReply frame) misused
