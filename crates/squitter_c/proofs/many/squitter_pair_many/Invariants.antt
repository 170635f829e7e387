use Rattle.std.proofs.Common.{◌≤◌, length}
use Rattle.squitter_c.specs.Calls.{AreAnswered}
use Rattle.squitter_c.specs.Many.{IsPairThere}
use Rattle.squitter_c.proofs.many.squitter_pair_many.Given as goal

abbrev pub invariant-loop-at : goal.invariant-loop-at
invariant-loop-at l =
    (l.count ≤ length l.older) × (l.count ≤ length l.newer) × (l.count ≤ length l.out) × (l.count ≤ length l.faults)
    × AreAnswered (IsPairThere l.older l.newer) l.initial.out l.out l.initial.faults l.faults l.at
