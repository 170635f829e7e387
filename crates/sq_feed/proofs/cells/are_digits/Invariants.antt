use Rattle.std.proofs.Common.{◌≡◌, drop}
use Rattle.sq_feed.specs.Cells.{are_digits}
use Rattle.sq_feed.proofs.cells.are_digits.Given as goal

abbrev pub invariant-loop-byte : goal.invariant-loop-byte
invariant-loop-byte l = are_digits l.text ≡ are_digits (drop l.byte-index l.text)
