-- Calls that encode frames.
use Rattle.std.specs.Prelude.{◌≡◌, List, ℕ, Result, Ok, Err}
use Rattle.sq_bits.specs.declared.frame.Frame.{Frame}
use Rattle.sq_bits.specs.Frames.{IsFrame}
use Rattle.sq_angle.specs.declared.position.Position.{Position}
use Rattle.sq_zones.specs.declared.parity.Parity.{Parity}
use Rattle.sq_cpr.specs.Span.{air, ground}
use Rattle.sq_cpr.specs.Rounds.{PositionRoundsTo}
use Rattle.sq_cpr.specs.Grid.{Point}
use Rattle.sq_message.specs.declared.place.Place.{Place}
use Rattle.sq_message.specs.declared.place.Place.TheVariants.{Air, Ground}
use Rattle.sq_message.specs.declared.place.PlaceFault.TheVariants.{NotPosition}
use Rattle.sq_message.specs.declared.squitter.Squitter.{Squitter}
use Rattle.sq_message.specs.Kinds.{Kind, HeadParts}
use Rattle.sq_message.specs.Parts.{squitter_parts}
use Rattle.sq_message.specs.Places.{IsPosition, IsSentAt}
use Rattle.sq_message.specs.Sending.{IsSent}
use Rattle.sq_message.specs.Spelling.{Spells}
use Rattle.squitter_c.specs.declared.faults.Fault.{Fault}
use Rattle.squitter_c.specs.declared.faults.Reason.{Reason}
use Rattle.squitter_c.specs.declared.faults.Reason.TheVariants as reasons
use Rattle.squitter_c.specs.declared.plain.PlainPosition.{PlainPosition}
use Rattle.squitter_c.specs.Decoding.{IsFrameFault}
use Rattle.squitter_c.specs.Faults.{Tells, as_it_is}
use Rattle.squitter_c.specs.Heads.{IsHead, PlainHead, PlainIsHead, odd_of}
use Rattle.squitter_c.specs.Plain.{IsFlag, IsOfDegrees, IsParity, PlainIsPosition}
use Rattle.squitter_c.specs.Reading.{AreBytesOf}

-- the result of encoding a frame; the first fault is that of the head or its parity, then that of the position
unfoldable pub IsSendAnswer : (kind : Kind) → PlainHead kind → PlainPosition → Result Frame Reason → Type 0
IsSendAnswer kind plain place (Ok frame) = (head : HeadParts kind) × IsHead kind plain head
    × ((parity : Parity) × IsParity (odd_of kind plain) parity
    × ((position : Position) × IsOfDegrees place position
    × ((point : Point) × IsSent kind head parity position point frame)))
IsSendAnswer kind plain place (Err reasons.NoHead) = ¬ (PlainIsHead kind plain)
IsSendAnswer kind plain place (Err reasons.NoPosition) = PlainIsHead kind plain × ¬ (PlainIsPosition place)
IsSendAnswer kind plain place (Err other) = ⊥

-- the place is the point of the parity that the position rounds to
abbrev pub IsRoundedTo : Parity → Position → Place → Type 0
IsRoundedTo parity position (Air point) = (point.parity ≡ parity) × PositionRoundsTo air position point
IsRoundedTo parity position (Ground point) = (point.parity ≡ parity) × PositionRoundsTo ground position point

-- the frame of a squitter that is encoded again at a place of its kind
abbrev pub IsFrameFrom : Squitter → Place → Frame → Type 0
IsFrameFrom q place frame =
    (sent : Squitter) × IsSentAt (squitter_parts q) place (squitter_parts sent) × IsFrame frame × Spells frame sent

-- The frame with the parity and the code of a position; its other fields are unchanged. The first fault is that of
-- the parity, then of the position, then of the frame, and last that the frame carries no position.
unfoldable pub IsAgainAnswer : Frame → (odd : ℕ) → PlainPosition → Result Frame Reason → Type 0
IsAgainAnswer frame odd plain (Ok again) = (parity : Parity) × IsParity odd parity
    × ((position : Position) × IsOfDegrees plain position
    × ((q : Squitter) × Spells frame q × ((place : Place) × IsRoundedTo parity position place
    × IsFrameFrom q place again)))
IsAgainAnswer frame odd plain (Err reasons.NoParity) = ¬ (IsFlag odd)
IsAgainAnswer frame odd plain (Err reasons.NoPosition) = IsFlag odd × ¬ (PlainIsPosition plain)
IsAgainAnswer frame odd plain (Err (reasons.Line fault)) =
    IsFlag odd × PlainIsPosition plain × IsFrameFault frame fault
IsAgainAnswer frame odd plain (Err (reasons.Place fault)) = IsFlag odd × PlainIsPosition plain
    × ((q : Squitter) × Spells frame q × (¬ (IsPosition (squitter_parts q).me)) × (fault ≡ NotPosition))
IsAgainAnswer frame odd plain (Err other) = ⊥

-- a frame is written, or the fault is returned
abbrev pub TellsFrame : Result Frame Reason → (old new : List ℕ) → Fault → Type 0
TellsFrame answer old new fault = Tells AreBytesOf as_it_is answer old new fault

-- the result of encoding a frame
abbrev pub IsSentFrame : (kind : Kind) → PlainHead kind → PlainPosition → (old new : List ℕ) → Fault → Type 0
IsSentFrame kind head position old new fault =
    (answer : Result Frame Reason) × IsSendAnswer kind head position answer × TellsFrame answer old new fault

-- the result of encoding a frame again
abbrev pub IsSentAgain : Frame → (odd : ℕ) → PlainPosition → (old new : List ℕ) → Fault → Type 0
IsSentAgain frame odd position old new fault =
    (answer : Result Frame Reason) × IsAgainAnswer frame odd position answer × TellsFrame answer old new fault
