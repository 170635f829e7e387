use Rattle.std.proofs.Common.{◌≡◌, ◌≤◌, ◌-◌, length}
use Rattle.std.specs.Prelude.{Some}
use Rattle.sq_feed.specs.Cells.{cell_of}
use Rattle.sq_feed.proofs.cells.cell_of.Given as goal

abbrev pub invariant-loop-step : goal.invariant-loop-step
invariant-loop-step l =
    (cell_of l.k (Some l.row) ≡ cell_of (l.k - l.step) (Some l.rest)) × (length l.rest ≤ length l.row)
