use Rattle.std.proofs.Common.{◌≡◌, ◌≤◌, ◌+◌, ◌-◌, drop, length, take}
use Rattle.sq_feed.specs.Orders.{HasSorted}
use Rattle.squitter_c.specs.FeedCalls.{squitters_of}
use Rattle.squitter_c.proofs.order.take_by.Given as goal

abbrev pub invariant-loop-written : goal.invariant-loop-written
invariant-loop-written l = record {
  taken : l.taken ≤ l.count;
  few : l.written ≤ l.room;
  given : HasSorted l.initial.order (squitters_of (take l.taken l.moments) (take l.taken l.frames))
      (squitters_of (take l.written l.out_moments) (take l.written l.out_frames)) l.order;
  rest : (drop l.written l.out_moments ≡ drop l.written l.initial.out_moments)
      × (drop l.written l.out_frames ≡ drop l.written l.initial.out_frames);
  long : (length l.out_moments ≡ length l.initial.out_moments)
      × (length l.out_frames ≡ length l.initial.out_frames);
}

abbrev pub decreases-loop-written : goal.decreases-loop-written
decreases-loop-written l = l.room - l.written + (l.count - l.taken)
