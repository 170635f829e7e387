use Rattle.std.proofs.Common.{◌≤◌, length}
use Rattle.squitter_c.specs.Calls.{AreAnswered}
use Rattle.squitter_c.specs.Many.{IsE7At}
use Rattle.squitter_c.proofs.many.squitter_position_e7_many.Given as goal

abbrev pub invariant-loop-at : goal.invariant-loop-at
invariant-loop-at l =
    (l.count ≤ length l.positions) × (l.count ≤ length l.out) × (l.count ≤ length l.faults)
    × AreAnswered (IsE7At l.positions) l.initial.out l.out l.initial.faults l.faults l.at
