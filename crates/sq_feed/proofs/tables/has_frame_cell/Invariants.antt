use Rattle.std.proofs.Common.{◌≡◌, ◌-◌, ◌≤◌, [], drop, take}
use Rattle.sq_feed.specs.Tables.{frame_cell_from}
use Rattle.sq_feed.proofs.tables.has_frame_cell.Given as goal

abbrev pub invariant-loop-at : goal.invariant-loop-at
invariant-loop-at l =
    (l.start ≤ l.at) × (frame_cell_from l.separator [] l.row
    ≡ frame_cell_from l.separator (take (l.at - l.start) (drop l.start l.row)) (drop l.at l.row))
