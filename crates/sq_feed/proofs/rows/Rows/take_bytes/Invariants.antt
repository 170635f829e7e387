use Rattle.std.proofs.Common.{[], take}
use Rattle.sq_feed.specs.Follows.{Follows}
use Rattle.sq_feed.specs.Rows.{IsHeld, rows_to_come}
use Rattle.sq_feed.proofs.rows.Rows.take_bytes.Given as goal

abbrev pub invariant-loop-at : goal.invariant-loop-at
invariant-loop-at l =
    IsHeld l.self × Follows (rows_to_come l.initial.self) (take l.at l.piece) [] (rows_to_come l.self)
