-- The texts of faults.
use Rattle.std.specs.Prelude.{◌≡◌, ◌==◌, ◌+◌, ◌*◌, ◌++◌, ◌∷◌, ℕ, List, [], Option, Some, None, codes, decimal, find, if◌then◌else◌}
use Rattle.sq_angle.specs.Faults.{angle_fault_text}
use Rattle.sq_angle.specs.declared.read.AngleFault.TheVariants as angles
use Rattle.sq_message.specs.declared.place.PlaceFault.TheVariants as places
use Rattle.sq_text.specs.declared.faults.LineFault.TheVariants as lines
use Rattle.sq_text.specs.Faults.{fault_text}
use Rattle.sq_message.specs.Faults.{place_fault_text}
use Rattle.sq_track.specs.Faults.{track_fault_text}
use Rattle.sq_track.specs.declared.heard.TrackFault.TheVariants as tracks
use Rattle.squitter_c.specs.declared.faults.Reason.{Reason}
use Rattle.squitter_c.specs.declared.faults.Reason.TheVariants.{Line, Place, Angle, NoPosition, NoHead, NoAngle}
use Rattle.squitter_c.specs.declared.faults.Reason.TheVariants.{NoLatitude, NoFeet, NoParity, Memory, NoLimit, NoTracker}
use Rattle.squitter_c.specs.declared.faults.Reason.TheVariants.{LongLog, NoFormat, Entry}
use Rattle.squitter_c.specs.Faults.{fault_of, with_numbers}

-- the text of a reason: that of the program, if it has one
abbrev pub reason_text : Reason → List ℕ
reason_text (Line fault) = fault_text fault
reason_text (Place fault) = place_fault_text fault
reason_text (Angle fault) = angle_fault_text fault
reason_text NoPosition = codes "bad position"
reason_text NoHead = codes "bad fields"
reason_text NoAngle = codes "bad angle"
reason_text NoLatitude = codes "bad latitude"
reason_text NoFeet = codes "bad feet"
reason_text NoParity = codes "bad parity"
reason_text Memory = track_fault_text tracks.Memory
reason_text NoLimit = track_fault_text tracks.NoLimit
reason_text NoTracker = codes "no tracker"
reason_text LongLog = codes "log too long"
reason_text NoFormat = codes "bad format"
reason_text (Entry index) = codes "bad entry " ++ decimal index

-- a reason of each kind
abbrev pub one_of_each : List Reason
one_of_each =
    Line lines.Wrap ∷ Line lines.Short ∷ Line (lines.Length 0) ∷ Line (lines.Digit 0) ∷ Line (lines.NotDf17 0)
    ∷ Line (lines.Parity 0) ∷ Line lines.LongLine ∷ Line lines.Moment ∷ Line (lines.MomentBack 0) ∷ Line lines.Full
    ∷ Place places.NotPosition ∷ Place places.OtherAddress ∷ Place places.OtherKind ∷ Place places.SameParity
    ∷ Place places.NoSite ∷ Place places.OutOfRange ∷ Place (places.ZoneCounts 0 0)
    ∷ Angle angles.NotANumber ∷ Angle angles.TooManyDecimals ∷ Angle angles.OutOfRange
    ∷ NoPosition ∷ NoHead ∷ NoAngle ∷ NoLatitude ∷ NoFeet ∷ NoParity ∷ Memory ∷ NoLimit ∷ NoTracker
    ∷ LongLog ∷ NoFormat ∷ Entry 0 ∷ []

-- the reason with this code, if there is one, whatever its numbers
abbrev pub reason_of : (code : ℕ) → Option Reason
reason_of code = find (λ reason. code == (fault_of reason).code) one_of_each

-- the text of a reason with these numbers; without a reason, the text for no fault or for an unknown one
abbrev pub text_with : (code first second : ℕ) → Option Reason → List ℕ
text_with code first second (Some reason) = reason_text (with_numbers first second reason)
text_with code first second None = if code == 0 then codes "no fault" else codes "unknown fault"

-- the text of any value of a fault: that of the reason with its code, and with its numbers
unfoldable pub told_text : (code first second : ℕ) → List ℕ
told_text code first second = text_with code first second (reason_of code)

-- the text of a fault is that of its reason
abbrev pub EachText : Type 0
EachText = (reason : Reason) →
    told_text (fault_of reason).code (fault_of reason).first (fault_of reason).second ≡ reason_text reason

-- 0.1.0
abbrev pub version : ℕ
version = 0 * 65536 + 1 * 256 + 0
