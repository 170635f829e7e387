use Rattle.std.proofs.Common.{◌≡◌, ◌≤◌, length, take}
use Rattle.sq_feed.specs.Orders.{place_of}
use Rattle.sq_feed.proofs.order.place_of.Given as goal

abbrev pub invariant-loop-at : goal.invariant-loop-at
invariant-loop-at l = record {
  within : l.at ≤ length l.held;
  same : place_of l.moment l.held ≡ place_of l.moment (take l.at l.held);
}

abbrev pub decreases-loop-at : goal.decreases-loop-at
decreases-loop-at l = l.at
