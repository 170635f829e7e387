use Rattle.std.proofs.Common.{◌≡◌, ◌+◌, ◌-◌, ◌≤◌, length}
use Rattle.std.specs.Prelude.{Some}
use Rattle.sq_feed.specs.Cells.{named_from}
use Rattle.sq_feed.proofs.cells.column_of.Given as goal

abbrev pub invariant-loop-k : goal.invariant-loop-k
invariant-loop-k l =
    (named_from (length l.row + 1) l.name 0 (Some l.row) ≡ named_from (length l.row + 1 - l.k) l.name l.k
    (Some l.rest))
    × (length l.rest ≤ length l.row)
