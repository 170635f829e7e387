-- Laws that pin calls at an index of arrays exactly.
use Rattle.std.specs.Prelude.{◌≡◌, ◌↔◌, ◌<◌, ℕ, List, length, slice_index_or}
use Rattle.squitter_c.specs.declared.faults.Fault.{Fault}
use Rattle.squitter_c.specs.declared.plain.PlainAngle.{PlainAngle}
use Rattle.squitter_c.specs.declared.plain.PlainPosition.{PlainPosition}
use Rattle.squitter_c.specs.Frames.{frame_of}
use Rattle.squitter_c.specs.declared.e7.DegreesE7.{DegreesE7}
use Rattle.squitter_c.specs.declared.fields.PlainSquitter.{PlainSquitter}
use Rattle.squitter_c.specs.Angles.{IsAngleWritten}
use Rattle.squitter_c.specs.Decoding.{IsLocal, IsPair, IsPairAt}
use Rattle.squitter_c.specs.E7.{IsPositionE7}
use Rattle.squitter_c.specs.Many.{IsE7At, IsLocalAt, IsPairNear, IsPairThere, IsReadAt}
use Rattle.squitter_c.specs.Reading.{IsFrameRead}

-- ---- calls at an index

-- each element of the arrays has the result of the single call
pub record OfEach : Type 0 where
  pub read : (frames : List (List ℕ)) (k : ℕ) (frame : List ℕ) (old new : PlainSquitter) (fault : Fault)
      → k < length frames → IsReadAt frames k old new fault
      ↔ IsFrameRead (frame_of (slice_index_or frames k frame)) old new fault
  pub local : (frames : List (List ℕ)) (references : List PlainPosition) (k : ℕ) (frame : List ℕ)
      (reference : PlainPosition) (old new : PlainPosition) (fault : Fault) → k < length frames
      → k < length references → IsLocalAt frames references k old new fault
      ↔ IsLocal (frame_of (slice_index_or frames k frame)) (slice_index_or references k reference) old new fault
  pub pair : (older newer : List (List ℕ)) (k : ℕ) (frame : List ℕ) (old new : PlainPosition) (fault : Fault)
      → k < length older → k < length newer → IsPairThere older newer k old new fault
      ↔ IsPair (frame_of (slice_index_or older k frame)) (frame_of (slice_index_or newer k frame)) old new fault
  pub pair_at : (older newer : List (List ℕ)) (site : PlainPosition) (k : ℕ) (frame : List ℕ)
      (old new : PlainPosition) (fault : Fault) → k < length older → k < length newer
      → IsPairNear older newer site k old new fault
      ↔ IsPairAt (frame_of (slice_index_or older k frame)) (frame_of (slice_index_or newer k frame)) site old new fault
  pub e7 : (positions : List PlainPosition) (k : ℕ) (position : PlainPosition) (old new : DegreesE7) (fault : Fault)
      → k < length positions → IsE7At positions k old new fault
      ↔ IsPositionE7 (slice_index_or positions k position) old new fault

-- ---- one text of an angle

-- an angle has at most one text, or one fault, in bytes of one length
abbrev pub OneAngleText : Type 0
OneAngleText = (plain : PlainAngle) (old new other : List ℕ) (fault why : Fault) → length new ≡ length other
    → IsAngleWritten plain old new fault → IsAngleWritten plain old other why → (new ≡ other) × (fault ≡ why)
