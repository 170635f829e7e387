use Rattle.std.proofs.Common.{◌++◌, ◌-◌, ◌≤◌, [], length, take}
use Rattle.sq_feed.specs.Begun.{HoldWithRest, IsUnfinished, rest_of}
use Rattle.sq_feed.proofs.beast.Beast.take_bytes.Given as goal

abbrev pub invariant-loop-at : goal.invariant-loop-at
invariant-loop-at l = (l.at ≤ length l.piece) × IsUnfinished l.self.kind l.self.held
    × HoldWithRest (rest_of l.initial.self ++ take l.at l.piece) [] (rest_of l.self)

abbrev pub decreases-loop-at : goal.decreases-loop-at
decreases-loop-at l = length l.piece - l.at
