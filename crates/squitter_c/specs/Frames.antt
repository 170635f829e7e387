-- Frames as plain bytes.
use Rattle.std.specs.Prelude.{List, ℕ}
use Rattle.sq_bits.specs.declared.frame.Frame.{Frame}

-- 14 bytes, as a frame
abbrev pub frame_of : List ℕ → Frame
frame_of bytes = record { 0 = bytes }
