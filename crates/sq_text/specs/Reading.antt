-- Reading a text as a squitter.
use Rattle.std.specs.Prelude.{◌≡◌, ◌⊎◌, ℕ, List, Result, MatchResult}
use Rattle.sq_bits.specs.declared.frame.Frame.{Frame}
use Rattle.sq_message.specs.declared.squitter.Squitter.{Squitter}
use Rattle.sq_message.specs.declared.squitter.FrameFault.{FrameFault}
use Rattle.sq_message.specs.Spelling.{Spells, IsFault}
use Rattle.sq_text.specs.declared.frame_text.TextFault.{TextFault}
use Rattle.sq_text.specs.declared.faults.LineFault.{LineFault}
use Rattle.sq_text.specs.FrameText.{IsFrameText, IsTextFault}
use Rattle.sq_text.specs.Faults.{of_text, of_frame}

-- the text is that of a frame that encodes the squitter
abbrev pub IsSquitterText : List ℕ → Squitter → Type 0
IsSquitterText text squitter = (frame : Frame) × IsFrameText text frame × Spells frame squitter

-- why a text is not that of a squitter: it is not a frame text, or its frame has an error
abbrev pub IsSquitterFault : List ℕ → LineFault → Type 0
IsSquitterFault text fault =
    ((e : TextFault) × IsTextFault text e × (fault ≡ of_text e))
    ⊎ ((frame : Frame) × (e : FrameFault) × IsFrameText text frame × IsFault frame e × (fault ≡ of_frame e))

-- the result of reading a text
abbrev pub IsSquitterReading : List ℕ → Result Squitter LineFault → Type 0
IsSquitterReading text answer = MatchResult answer (IsSquitterText text) (IsSquitterFault text)

-- a function that reads every text: there is one, and any two agree on every text
pub record SquitterReader : Type 0 where
  pub read : List ℕ → Result Squitter LineFault
  pub reads : (text : List ℕ) → IsSquitterReading text (read text)
