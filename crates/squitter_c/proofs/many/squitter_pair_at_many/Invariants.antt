use Rattle.std.proofs.Common.{◌≤◌, length}
use Rattle.squitter_c.specs.Calls.{AreAnswered}
use Rattle.squitter_c.specs.Many.{IsPairNear}
use Rattle.squitter_c.proofs.many.squitter_pair_at_many.Given as goal

abbrev pub invariant-loop-at : goal.invariant-loop-at
invariant-loop-at l =
    (l.count ≤ length l.older) × (l.count ≤ length l.newer) × (l.count ≤ length l.out) × (l.count ≤ length l.faults)
    × AreAnswered (IsPairNear l.older l.newer l.site) l.initial.out l.out l.initial.faults l.faults l.at
