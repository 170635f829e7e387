-- Calls that read texts and frames.
use Rattle.std.specs.Prelude.{◌≡◌, List, ℕ, Result}
use Rattle.hex.specs.Hex.{encode_upper}
use Rattle.sq_bits.specs.declared.frame.Frame.{Frame}
use Rattle.sq_message.specs.declared.squitter.Squitter.{Squitter}
use Rattle.sq_message.specs.declared.squitter.FrameFault.{FrameFault}
use Rattle.sq_message.specs.Spelling.{IsReading}
use Rattle.sq_text.specs.declared.faults.LineFault.{LineFault}
use Rattle.sq_text.specs.declared.frame_text.TextFault.{TextFault}
use Rattle.sq_text.specs.FrameText.{IsFrameReading}
use Rattle.sq_text.specs.Reading.{IsSquitterReading}
use Rattle.squitter_c.specs.declared.faults.Fault.{Fault}
use Rattle.squitter_c.specs.declared.fields.PlainSquitter.{PlainSquitter}
use Rattle.squitter_c.specs.Faults.{Tells, of_frames, of_lines, of_texts}
use Rattle.squitter_c.specs.Fields.{IsPlainSquitter}

-- the bytes are the frame's
abbrev pub AreBytesOf : Frame → List ℕ → Type 0
AreBytesOf frame bytes = bytes ≡ frame.0

-- the result of parsing a frame text
abbrev pub IsFrameOfText : List ℕ → (old new : List ℕ) → Fault → Type 0
IsFrameOfText text old new fault =
    (answer : Result Frame TextFault) × IsFrameReading text answer × Tells AreBytesOf of_texts answer old new fault

-- the result of reading a squitter from a frame text
abbrev pub IsTextRead : List ℕ → (old new : PlainSquitter) → Fault → Type 0
IsTextRead text old new fault =
    (answer : Result Squitter LineFault) × IsSquitterReading text answer
    × Tells IsPlainSquitter of_lines answer old new fault

-- the result of reading a squitter from a frame
abbrev pub IsFrameRead : Frame → (old new : PlainSquitter) → Fault → Type 0
IsFrameRead frame old new fault =
    (answer : Result Squitter FrameFault) × IsReading frame answer
    × Tells IsPlainSquitter of_frames answer old new fault

-- the frame text of 28 upper-case digits
abbrev pub text_of : List ℕ → List ℕ
text_of frame = encode_upper frame
