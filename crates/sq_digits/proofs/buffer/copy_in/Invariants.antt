use Rattle.std.proofs.Common.{◌≡◌, ◌+◌, ◌++◌, length, take}
use Rattle.sq_digits.proofs.buffer.copy_in.Given as goal

abbrev pub invariant-loop-at : goal.invariant-loop-at
invariant-loop-at g l = record {
  front : take (l.start + l.at) l.cells ≡ take l.start l.initial.cells ++ take l.at l.source;
  long : length l.cells ≡ g.row.N;
}
