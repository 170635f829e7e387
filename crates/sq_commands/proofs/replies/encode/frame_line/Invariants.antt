use Rattle.std.proofs.Common.{◌≡◌, ◌*◌, take}
use Rattle.sq_digits.specs.Buffer.{text_len}
use Rattle.sq_feed.specs.Lines.{frame_digits}
use Rattle.sq_commands.proofs.replies.encode.frame_line.Given as goal

-- the digits of the bytes so far
abbrev pub invariant-loop-byte : goal.invariant-loop-byte
invariant-loop-byte l = record {
  bytes : l.line.bytes ≡ frame_digits (take l.byte-index l.frame);
  len : text_len l.line ≡ 2 * l.byte-index;
}
