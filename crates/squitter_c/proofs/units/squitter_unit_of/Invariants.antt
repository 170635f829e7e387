use Rattle.std.proofs.Common.{◌≡◌, ◌≤◌, drop, length}
use Rattle.sq_feed.specs.Units.{nothing_watched}
use Rattle.squitter_c.specs.Units.{watched_arrays}
use Rattle.squitter_c.proofs.units.squitter_unit_of.Given as goal

-- the elements that are left make the whole of what was watched
abbrev pub invariant-loop-at : goal.invariant-loop-at
invariant-loop-at l =
    (l.count ≤ length l.moments) × (l.count ≤ length l.addresses)
    × (watched_arrays l.units (drop l.at l.moments) (drop l.at l.addresses)
    ≡ watched_arrays nothing_watched l.moments l.addresses)
