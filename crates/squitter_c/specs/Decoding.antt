-- Calls that decode positions.
use Rattle.std.specs.Prelude.{◌≡◌, ◌⊎◌, Option, None, Some, Result, Ok, Err}
use Rattle.sq_bits.specs.declared.frame.Frame.{Frame}
use Rattle.sq_angle.specs.declared.position.Position.{Position}
use Rattle.sq_message.specs.declared.place.Place.{Place}
use Rattle.sq_message.specs.declared.squitter.FrameFault.{FrameFault}
use Rattle.sq_message.specs.declared.squitter.Squitter.{Squitter}
use Rattle.sq_message.specs.Parts.{squitter_parts}
use Rattle.sq_message.specs.Places.{IsLocalPlace, IsPairPlace, IsPositionOf}
use Rattle.sq_message.specs.Spelling.{IsFault, Spells}
use Rattle.sq_text.specs.declared.faults.LineFault.{LineFault}
use Rattle.sq_text.specs.Faults.{of_frame}
use Rattle.squitter_c.specs.declared.faults.Fault.{Fault}
use Rattle.squitter_c.specs.declared.faults.Reason.{Reason}
use Rattle.squitter_c.specs.declared.faults.Reason.TheVariants as reasons
use Rattle.squitter_c.specs.declared.plain.PlainPosition.{PlainPosition}
use Rattle.squitter_c.specs.Faults.{Tells, as_it_is}
use Rattle.squitter_c.specs.Plain.{IsLowestPosition, IsOfDegrees, PlainIsPosition}

-- the fault is that of the frame
abbrev pub IsFrameFault : Frame → LineFault → Type 0
IsFrameFault frame fault = (of : FrameFault) × IsFault frame of × (fault ≡ of_frame of)

-- the frame encodes a squitter
abbrev pub IsRead : Frame → Type 0
IsRead frame = (q : Squitter) × Spells frame q

-- the result of decoding a frame near a reference; the first fault is that of the reference, then of the frame, then
-- of the place
unfoldable pub IsLocalAnswer : Frame → PlainPosition → Result Place Reason → Type 0
IsLocalAnswer frame plain (Ok place) = (reference : Position) × IsOfDegrees plain reference
    × ((q : Squitter) × Spells frame q × IsLocalPlace (squitter_parts q).me reference (Ok place))
IsLocalAnswer frame plain (Err reasons.NoPosition) = ¬ (PlainIsPosition plain)
IsLocalAnswer frame plain (Err (reasons.Line fault)) = PlainIsPosition plain × IsFrameFault frame fault
IsLocalAnswer frame plain (Err (reasons.Place fault)) = (reference : Position) × IsOfDegrees plain reference
    × ((q : Squitter) × Spells frame q × IsLocalPlace (squitter_parts q).me reference (Err fault))
IsLocalAnswer frame plain (Err other) = ⊥

-- the result of decoding a pair; the first fault is that of the older frame, then of the newer, then of the place
unfoldable pub IsPairAnswer : (older newer : Frame) → Option Position → Result Place Reason → Type 0
IsPairAnswer older newer site (Ok place) = (o : Squitter) × Spells older o × ((n : Squitter) × Spells newer n
    × IsPairPlace (squitter_parts o) (squitter_parts n) site (Ok place))
IsPairAnswer older newer site (Err (reasons.Line fault)) =
    IsFrameFault older fault ⊎ (IsRead older × IsFrameFault newer fault)
IsPairAnswer older newer site (Err (reasons.Place fault)) = (o : Squitter) × Spells older o
    × ((n : Squitter) × Spells newer n × IsPairPlace (squitter_parts o) (squitter_parts n) site (Err fault))
IsPairAnswer older newer site (Err other) = ⊥

-- the result of decoding a pair with a site; the fault of the site comes first
abbrev pub IsSiteAnswer : (older newer : Frame) → PlainPosition → Result Place Reason → Type 0
IsSiteAnswer older newer plain answer = ((¬ (PlainIsPosition plain)) × (answer ≡ Err reasons.NoPosition))
    ⊎ ((site : Position) × IsOfDegrees plain site × IsPairAnswer older newer (Some site) answer)

-- the position of the place, in lowest terms
abbrev pub IsLowestPlace : Place → PlainPosition → Type 0
IsLowestPlace place plain = (position : Position) × IsPositionOf place position × IsLowestPosition position plain

-- the position of a place is written, or the fault is returned
abbrev pub TellsPosition : Result Place Reason → (old new : PlainPosition) → Fault → Type 0
TellsPosition answer old new fault = Tells IsLowestPlace as_it_is answer old new fault

-- the result for a frame near a reference
abbrev pub IsLocal : Frame → PlainPosition → (old new : PlainPosition) → Fault → Type 0
IsLocal frame reference old new fault =
    (answer : Result Place Reason) × IsLocalAnswer frame reference answer × TellsPosition answer old new fault

-- the result for a pair without a site
abbrev pub IsPair : (older newer : Frame) → (old new : PlainPosition) → Fault → Type 0
IsPair older newer old new fault =
    (answer : Result Place Reason) × IsPairAnswer older newer None answer × TellsPosition answer old new fault

-- the result for a pair with a site
abbrev pub IsPairAt : (older newer : Frame) → PlainPosition → (old new : PlainPosition) → Fault → Type 0
IsPairAt older newer site old new fault =
    (answer : Result Place Reason) × IsSiteAnswer older newer site answer × TellsPosition answer old new fault
