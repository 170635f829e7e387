use Rattle.std.proofs.Common.{◌≡◌, ◌+◌, ◌-◌, ◌≤◌, drop, length, slice_get}
use Rattle.sq_track.specs.Held.{heard_since}
use Rattle.squitter_c.proofs.Savings.{AreToldBelow}
use Rattle.squitter_c.proofs.tracker_present.write_present.Given as goal

abbrev pub invariant-loop-at : goal.invariant-loop-at
invariant-loop-at g l =
    let present = heard_since l.since l.tracker in
    (l.next ≡ slice_get present (l.from + l.at)) × (l.at ≤ length present - l.from)
    × AreToldBelow (drop l.from present) l.initial.entries l.entries l.at
