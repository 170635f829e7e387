use Rattle.std.proofs.Common.{◌≡◌, slice_get}
use Rattle.squitter_c.proofs.Savings.{AreToldBelow}
use Rattle.squitter_c.proofs.tracker_save.write_entries.Given as goal

abbrev pub invariant-loop-at : goal.invariant-loop-at
invariant-loop-at g l = (l.next ≡ slice_get l.tracker.contacts l.at)
    × AreToldBelow l.tracker.contacts l.initial.entries l.entries l.at
