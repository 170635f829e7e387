use Rattle.std.proofs.Common.{◌≡◌, ◌≤◌, ◌<◌, Some, length, slice_get}
use Rattle.sq_track.specs.Ring.{round}
use Rattle.sq_track.proofs.contacts.nth.Given as goal

abbrev pub invariant-loop : goal.invariant-loop
invariant-loop l = (slice_get (round l.links l.oldest) l.counter ≡ Some l.at)
    × (l.at < length l.links) × (l.counter ≤ l.index)
