use Rattle.std.proofs.Common.{◌≡◌, slice_get}
use Rattle.sq_track.specs.Held.{heard_since}
use Rattle.sq_track.proofs.tracker.Tracker.present.Given as goal

abbrev pub invariant-loop-at : goal.invariant-loop-at
invariant-loop-at g l = l.next ≡ slice_get (heard_since l.since l.self) l.at
