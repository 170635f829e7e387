use Rattle.std.proofs.Common.{◌≤◌, length}
use Rattle.squitter_c.specs.Calls.{AreAnswered}
use Rattle.squitter_c.specs.Many.{IsLocalAt}
use Rattle.squitter_c.proofs.many.squitter_local_many.Given as goal

abbrev pub invariant-loop-at : goal.invariant-loop-at
invariant-loop-at l =
    (l.count ≤ length l.frames) × (l.count ≤ length l.references) × (l.count ≤ length l.out) × (l.count ≤ length
    l.faults)
    × AreAnswered (IsLocalAt l.frames l.references) l.initial.out l.out l.initial.faults l.faults l.at
