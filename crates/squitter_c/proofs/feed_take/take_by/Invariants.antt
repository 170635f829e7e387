use Rattle.std.proofs.Common.{◌≡◌, ◌≤◌, ◌+◌, ◌-◌, drop, length, take}
use Rattle.sq_feed.specs.Feeds.{HasTold, steps_for, steps_left}
use Rattle.squitter_c.specs.FeedCalls.{squitters_of}
use Rattle.squitter_c.proofs.feed_take.take_by.Given as goal

abbrev pub invariant-loop-slot : goal.invariant-loop-slot
invariant-loop-slot l = record {
  taken : l.taken ≤ length l.piece;
  few : l.written ≤ l.room;
  given : HasTold l.arrival l.initial.feed (take l.taken l.piece)
      (squitters_of (take l.written l.moments) (take l.written l.frames)) l.feed;
  rest : (drop l.written l.moments ≡ drop l.written l.initial.moments)
      × (drop l.written l.frames ≡ drop l.written l.initial.frames);
  long : (length l.moments ≡ length l.initial.moments) × (length l.frames ≡ length l.initial.frames);
}

abbrev pub decreases-loop-slot : goal.decreases-loop-slot
decreases-loop-slot l = steps_left l.feed + steps_for (length l.piece - l.taken)
