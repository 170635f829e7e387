-- The errors of a line and their texts.
use Rattle.std.specs.Prelude.{ℕ, List, ◌++◌, codes, decimal}
use Rattle.sq_message.specs.declared.squitter.FrameFault.{FrameFault}
use Rattle.sq_message.specs.declared.squitter.FrameFault.TheVariants as of_frames
use Rattle.sq_message.specs.Faults.{frame_fault_text, frame_fault_label}
use Rattle.sq_text.specs.declared.frame_text.TextFault.{TextFault}
use Rattle.sq_text.specs.declared.frame_text.TextFault.TheVariants as of_texts
use Rattle.sq_text.specs.declared.faults.LineFault.{LineFault}
use Rattle.sq_text.specs.declared.faults.LineFault.TheVariants.{LongLine, Moment, Wrap, Short, Length, Digit, NotDf17}
use Rattle.sq_text.specs.declared.faults.LineFault.TheVariants.{Parity, MomentBack, Full}
use Rattle.sq_digits.specs.Digits.{hexadecimal}

-- a text error, as a line error
abbrev pub of_text : TextFault → LineFault
of_text of_texts.Wrap = Wrap
of_text of_texts.Short = Short
of_text (of_texts.Length n) = Length n
of_text (of_texts.Digit place) = Digit place

-- a frame error, as a line error
abbrev pub of_frame : FrameFault → LineFault
of_frame (of_frames.NotDf17 format) = NotDf17 format
of_frame (of_frames.Parity remainder) = Parity remainder

-- the text of an error before its number
abbrev pub fault_label : LineFault → List ℕ
fault_label LongLine = codes "long line"
fault_label Moment = codes "bad moment"
fault_label Wrap = codes "bad wrapping"
fault_label Short = codes "short frame"
fault_label (Length n) = codes "bad length "
fault_label (Digit place) = codes "bad digit "
fault_label (NotDf17 format) = frame_fault_label (of_frames.NotDf17 format)
fault_label (Parity remainder) = frame_fault_label (of_frames.Parity remainder)
fault_label (MomentBack last) = codes "moment back "
fault_label Full = codes "table full"

-- the text of an error
abbrev pub fault_text : LineFault → List ℕ
fault_text (Length n) = fault_label (Length n) ++ decimal n
fault_text (Digit place) = fault_label (Digit place) ++ decimal place
fault_text (NotDf17 format) = frame_fault_text (of_frames.NotDf17 format)
fault_text (Parity remainder) = fault_label (Parity remainder) ++ hexadecimal 6 remainder
fault_text (MomentBack last) = fault_label (MomentBack last) ++ decimal last
fault_text fault = fault_label fault
