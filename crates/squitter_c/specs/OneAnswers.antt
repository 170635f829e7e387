-- A call has at most one result: two results for the same `out` before the call have the same `out` and the same
-- fault.
use Rattle.std.specs.Prelude.{◌≡◌, ℕ, ℤ, List}
use Rattle.sq_bits.specs.declared.frame.Frame.{Frame}
use Rattle.sq_message.specs.Kinds.{Kind}
use Rattle.squitter_c.specs.declared.altitudes.PlainAltitude.{PlainAltitude}
use Rattle.squitter_c.specs.declared.e7.DegreesE7.{DegreesE7}
use Rattle.squitter_c.specs.declared.faults.Fault.{Fault}
use Rattle.squitter_c.specs.declared.fields.PlainSquitter.{PlainSquitter}
use Rattle.squitter_c.specs.declared.plain.PlainAngle.{PlainAngle}
use Rattle.squitter_c.specs.declared.plain.PlainPosition.{PlainPosition}
use Rattle.squitter_c.specs.declared.zones.PlainZones.{PlainZones}
use Rattle.squitter_c.specs.Altitudes.{IsFeetOfField, IsFieldWritten}
use Rattle.squitter_c.specs.Angles.{IsAngleRead, IsZoneCount}
use Rattle.squitter_c.specs.Decoding.{IsLocal, IsPair, IsPairAt}
use Rattle.squitter_c.specs.E7.{IsAngleE7, IsPositionE7}
use Rattle.squitter_c.specs.Heads.{PlainHead}
use Rattle.squitter_c.specs.Sending.{IsSentAgain, IsSentFrame}
use Rattle.squitter_c.specs.Reading.{IsFrameOfText, IsFrameRead, IsTextRead}
use Rattle.squitter_c.specs.Zones.{AreLocalZones}

-- calls that read texts and frames
pub record OneReading : Type 0 where
  pub frame_of_text : (text old new other : List ℕ) (fault why : Fault)
      → IsFrameOfText text old new fault → IsFrameOfText text old other why → (new ≡ other) × (fault ≡ why)
  pub text : (text : List ℕ) (old new other : PlainSquitter) (fault why : Fault)
      → IsTextRead text old new fault → IsTextRead text old other why → (new ≡ other) × (fault ≡ why)
  pub frame : (frame : Frame) (old new other : PlainSquitter) (fault why : Fault)
      → IsFrameRead frame old new fault → IsFrameRead frame old other why → (new ≡ other) × (fault ≡ why)

-- calls that decode positions
pub record OnePlace : Type 0 where
  pub near : (frame : Frame) (reference old new other : PlainPosition) (fault why : Fault)
      → IsLocal frame reference old new fault → IsLocal frame reference old other why
      → (new ≡ other) × (fault ≡ why)
  pub zones : (frame : Frame) (reference : PlainPosition) (old new other : PlainZones) (fault why : Fault)
      → AreLocalZones frame reference old new fault → AreLocalZones frame reference old other why
      → (new ≡ other) × (fault ≡ why)
  pub pair : (older newer : Frame) (old new other : PlainPosition) (fault why : Fault)
      → IsPair older newer old new fault → IsPair older newer old other why → (new ≡ other) × (fault ≡ why)
  pub pair_at : (older newer : Frame) (site old new other : PlainPosition) (fault why : Fault)
      → IsPairAt older newer site old new fault → IsPairAt older newer site old other why
      → (new ≡ other) × (fault ≡ why)

-- calls for angles and altitudes
pub record OneNumber : Type 0 where
  pub angle : (text : List ℕ) (old new other : PlainAngle) (fault why : Fault)
      → IsAngleRead text old new fault → IsAngleRead text old other why → (new ≡ other) × (fault ≡ why)
  pub zones : (plain : PlainAngle) (old new other : ℕ) (fault why : Fault)
      → IsZoneCount plain old new fault → IsZoneCount plain old other why → (new ≡ other) × (fault ≡ why)
  pub angle_e7 : (plain : PlainAngle) (old new other : ℤ) (fault why : Fault)
      → IsAngleE7 plain old new fault → IsAngleE7 plain old other why → (new ≡ other) × (fault ≡ why)
  pub position_e7 : (plain : PlainPosition) (old new other : DegreesE7) (fault why : Fault)
      → IsPositionE7 plain old new fault → IsPositionE7 plain old other why → (new ≡ other) × (fault ≡ why)
  pub feet : (code field : ℕ) (old new other : PlainAltitude) (fault why : Fault)
      → IsFeetOfField code field old new fault → IsFeetOfField code field old other why
      → (new ≡ other) × (fault ≡ why)
  pub field : (feet : ℤ) (old new other : ℕ) (fault why : Fault)
      → IsFieldWritten feet old new fault → IsFieldWritten feet old other why → (new ≡ other) × (fault ≡ why)

-- calls that encode frames
abbrev pub OneSent : Kind → Type 0
OneSent kind = (head : PlainHead kind) (position : PlainPosition) (old new other : List ℕ) (fault why : Fault)
    → IsSentFrame kind head position old new fault → IsSentFrame kind head position old other why
    → (new ≡ other) × (fault ≡ why)

-- calls that encode frames again
abbrev pub OneSentAgain : Type 0
OneSentAgain = (frame : Frame) (odd : ℕ) (position : PlainPosition) (old new other : List ℕ) (fault why : Fault)
    → IsSentAgain frame odd position old new fault → IsSentAgain frame odd position old other why
    → (new ≡ other) × (fault ≡ why)
