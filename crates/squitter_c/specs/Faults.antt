-- The code of each reason why a call fails. Codes are stated nowhere else.
use Rattle.std.specs.Prelude.{◌≡◌, ◌≢◌, ◌↔◌, ℕ, Result, Ok, Err}
use Rattle.sq_angle.specs.declared.read.AngleFault.{AngleFault}
use Rattle.sq_angle.specs.declared.read.AngleFault.TheVariants as angles
use Rattle.sq_message.specs.declared.place.PlaceFault.{PlaceFault}
use Rattle.sq_message.specs.declared.place.PlaceFault.TheVariants as places
use Rattle.sq_message.specs.declared.squitter.FrameFault.{FrameFault}
use Rattle.sq_text.specs.declared.faults.LineFault.{LineFault}
use Rattle.sq_text.specs.declared.faults.LineFault.TheVariants as lines
use Rattle.sq_text.specs.declared.frame_text.TextFault.{TextFault}
use Rattle.sq_text.specs.Faults.{of_frame, of_text}
use Rattle.squitter_c.specs.declared.faults.Fault.{Fault}
use Rattle.squitter_c.specs.declared.faults.Reason.{Reason}
use Rattle.squitter_c.specs.declared.faults.Reason.TheVariants.{Line, Place, Angle, NoPosition, NoHead, NoAngle}
use Rattle.squitter_c.specs.declared.faults.Reason.TheVariants.{NoLatitude, NoFeet, NoParity, Memory, NoLimit, NoTracker}
use Rattle.squitter_c.specs.declared.faults.Reason.TheVariants.{LongLog, NoFormat, Entry}

-- a code with two numbers
abbrev pub told : (code first second : ℕ) → Fault
told code first second = record { code = code; second = second; first = first }

-- no fault
abbrev pub none : Fault
none = told 0 0 0

-- the codes of texts, frames, timestamps and lines
abbrev pub fault_of_line : LineFault → Fault
fault_of_line lines.Wrap = told 1 0 0
fault_of_line lines.Short = told 2 0 0
fault_of_line (lines.Length n) = told 3 n 0
fault_of_line (lines.Digit place) = told 4 place 0
fault_of_line (lines.NotDf17 format) = told 5 format 0
fault_of_line (lines.Parity remainder) = told 6 remainder 0
fault_of_line lines.LongLine = told 40 0 0
fault_of_line lines.Moment = told 41 0 0
fault_of_line (lines.MomentBack last) = told 42 last 0
fault_of_line lines.Full = told 43 0 0

-- the codes of positions
abbrev pub fault_of_place : PlaceFault → Fault
fault_of_place places.NotPosition = told 10 0 0
fault_of_place places.OtherAddress = told 11 0 0
fault_of_place places.OtherKind = told 12 0 0
fault_of_place places.SameParity = told 13 0 0
fault_of_place places.NoSite = told 14 0 0
fault_of_place places.OutOfRange = told 15 0 0
fault_of_place (places.ZoneCounts even odd) = told 16 even odd

-- the codes of the texts of angles
abbrev pub fault_of_angle : AngleFault → Fault
fault_of_angle angles.NotANumber = told 30 0 0
fault_of_angle angles.TooManyDecimals = told 31 0 0
fault_of_angle angles.OutOfRange = told 32 0 0

-- the code of each reason
abbrev pub fault_of : Reason → Fault
fault_of (Line fault) = fault_of_line fault
fault_of (Place fault) = fault_of_place fault
fault_of (Angle fault) = fault_of_angle fault
fault_of NoPosition = told 20 0 0
fault_of NoHead = told 21 0 0
fault_of NoAngle = told 22 0 0
fault_of NoLatitude = told 23 0 0
fault_of NoFeet = told 24 0 0
fault_of NoParity = told 25 0 0
fault_of Memory = told 44 0 0
fault_of NoLimit = told 45 0 0
fault_of NoTracker = told 46 0 0
fault_of LongLog = told 48 0 0
fault_of NoFormat = told 49 0 0
fault_of (Entry index) = told 50 index 0

-- the reason of a text, a frame or a timestamp with this number, if it has one
abbrev pub line_with : (first : ℕ) → LineFault → LineFault
line_with first (lines.Length n) = lines.Length first
line_with first (lines.Digit place) = lines.Digit first
line_with first (lines.NotDf17 format) = lines.NotDf17 first
line_with first (lines.Parity remainder) = lines.Parity first
line_with first (lines.MomentBack last) = lines.MomentBack first
line_with first fault = fault

-- the reason of a position with these numbers, if it has some
abbrev pub place_with : (first second : ℕ) → PlaceFault → PlaceFault
place_with first second (places.ZoneCounts even odd) = places.ZoneCounts first second
place_with first second fault = fault

-- the reason with these numbers, if it has some
abbrev pub with_numbers : (first second : ℕ) → Reason → Reason
with_numbers first second (Line fault) = Line (line_with first fault)
with_numbers first second (Place fault) = Place (place_with first second fault)
with_numbers first second (Entry index) = Entry first
with_numbers first second reason = reason

-- a reason with 0 for its numbers: two reasons are of one kind if they differ only in their numbers
abbrev pub kind_of : Reason → Reason
kind_of reason = with_numbers 0 0 reason

-- two reasons have the same code exactly if they are of one kind
abbrev pub OneCode : Type 0
OneCode = (a b : Reason) → ((fault_of a).code ≡ (fault_of b).code) ↔ (kind_of a ≡ kind_of b)

-- a code with its numbers belongs to at most one reason
abbrev pub OneReason : Type 0
OneReason = (a b : Reason) → fault_of a ≡ fault_of b → a ≡ b

-- no reason has the code for success
abbrev pub NoCodeIsZero : Type 0
NoCodeIsZero = (a : Reason) → (fault_of a).code ≢ none.code

-- the fault of a text, a frame, a line or an angle, as a reason
abbrev pub of_texts : TextFault → Reason
of_texts fault = Line (of_text fault)

abbrev pub of_frames : FrameFault → Reason
of_frames fault = Line (of_frame fault)

abbrev pub of_lines : LineFault → Reason
of_lines fault = Line fault

abbrev pub of_angles : AngleFault → Reason
of_angles fault = Angle fault

abbrev pub as_it_is : Reason → Reason
as_it_is reason = reason

-- The outcome of a call. If there is a result, the written value represents it, and the code is 0. Otherwise the
-- fault is returned, and `out` is unchanged.
abbrev pub Tells : {A B E : Type 0} → (A → B → Type 0) → (E → Reason) → Result A E → (old new : B) → Fault → Type 0
Tells Stands named (Ok answer) old new fault = Stands answer new × (fault ≡ none)
Tells Stands named (Err reason) old new fault = (new ≡ old) × (fault ≡ fault_of (named reason))
