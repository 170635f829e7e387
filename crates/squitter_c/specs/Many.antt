-- Many calls in one.
use Rattle.std.specs.Prelude.{ℕ, List, slice_index_or}
use Rattle.squitter_c.specs.declared.e7.DegreesE7.{DegreesE7}
use Rattle.squitter_c.specs.declared.faults.Fault.{Fault}
use Rattle.squitter_c.specs.declared.fields.PlainSquitter.{PlainSquitter}
use Rattle.squitter_c.specs.declared.plain.PlainPosition.{PlainPosition}
use Rattle.squitter_c.specs.Decoding.{IsLocal, IsPair, IsPairAt}
use Rattle.squitter_c.specs.E7.{IsPositionE7}
use Rattle.squitter_c.specs.Reading.{IsFrameRead}
use Rattle.squitter_c.specs.Frames.{frame_of}

-- the result of reading the frame at index k
abbrev pub IsReadAt : (frames : List (List ℕ)) → (k : ℕ) → (old new : PlainSquitter) → Fault → Type 0
IsReadAt frames k old new fault =
    (frame : List ℕ) → IsFrameRead (frame_of (slice_index_or frames k frame)) old new fault

-- the result of decoding the frame at index k near the reference at index k
abbrev pub IsLocalAt : (frames : List (List ℕ)) → (references : List PlainPosition) → (k : ℕ)
    → (old new : PlainPosition) → Fault → Type 0
IsLocalAt frames references k old new fault = (frame : List ℕ) (reference : PlainPosition)
    → IsLocal (frame_of (slice_index_or frames k frame)) (slice_index_or references k reference) old new fault

-- the result of decoding the frames at index k as a pair
abbrev pub IsPairThere : (older newer : List (List ℕ)) → (k : ℕ) → (old new : PlainPosition) → Fault → Type 0
IsPairThere older newer k old new fault = (frame : List ℕ)
    → IsPair (frame_of (slice_index_or older k frame)) (frame_of (slice_index_or newer k frame)) old new fault

-- the result of decoding the frames at index k as a pair with a site
abbrev pub IsPairNear : (older newer : List (List ℕ)) → PlainPosition → (k : ℕ) → (old new : PlainPosition) → Fault
    → Type 0
IsPairNear older newer site k old new fault = (frame : List ℕ)
    → IsPairAt (frame_of (slice_index_or older k frame)) (frame_of (slice_index_or newer k frame)) site old new fault

-- the position at index k in units of 10^-7 degree
abbrev pub IsE7At : (positions : List PlainPosition) → (k : ℕ) → (old new : DegreesE7) → Fault → Type 0
IsE7At positions k old new fault =
    (position : PlainPosition) → IsPositionE7 (slice_index_or positions k position) old new fault
