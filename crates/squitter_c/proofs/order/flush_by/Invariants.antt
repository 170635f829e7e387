use Rattle.std.proofs.Common.{◌≡◌, ◌≤◌, ◌-◌, drop, length, take}
use Rattle.sq_feed.specs.Orders.{HasFlushed}
use Rattle.squitter_c.specs.FeedCalls.{squitters_of}
use Rattle.squitter_c.proofs.order.flush_by.Given as goal

abbrev pub invariant-loop-written : goal.invariant-loop-written
invariant-loop-written l = record {
  few : l.written ≤ l.room;
  given : HasFlushed l.initial.order (squitters_of (take l.written l.out_moments) (take l.written l.out_frames))
      l.order;
  rest : (drop l.written l.out_moments ≡ drop l.written l.initial.out_moments)
      × (drop l.written l.out_frames ≡ drop l.written l.initial.out_frames);
  long : (length l.out_moments ≡ length l.initial.out_moments)
      × (length l.out_frames ≡ length l.initial.out_frames);
}

abbrev pub decreases-loop-written : goal.decreases-loop-written
decreases-loop-written l = l.room - l.written
