use Rattle.std.proofs.Common.{◌≡◌, ◌+◌, ◌*◌, ◌∷◌, take}
use Rattle.sq_digits.specs.Buffer.{text_len}
use Rattle.sq_digits.specs.Characters.{space}
use Rattle.sq_feed.specs.Lines.{frame_digits}
use Rattle.sq_feed.proofs.lines.push_tail.Given as goal

abbrev pub invariant-loop-byte : goal.invariant-loop-byte
invariant-loop-byte g l = record {
  bytes : l.tail.bytes ≡ space ∷ frame_digits (take l.byte-index l.bytes);
  len : text_len l.tail ≡ 2 * l.byte-index + 1;
}
