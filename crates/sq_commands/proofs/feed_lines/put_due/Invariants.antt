use Rattle.std.proofs.Common.{◌≡◌, [], List, length}
use Rattle.sq_feed.specs.declared.message.Timed.{Timed}
use Rattle.sq_feed.specs.Feeds.{lines_of}
use Rattle.sq_feed.specs.Orders.{HasSorted}
use Rattle.sq_commands.specs.Feed.{HasLined}
use Rattle.sq_commands.proofs.feed_lines.put_due.Given as goal

-- the lines of the first squitters that are due were made
abbrev pub invariant-loop-slot : goal.invariant-loop-slot
invariant-loop-slot g l = record {
  given : (given : List Timed) × HasSorted l.initial.order [] given l.order
      × HasLined g.K.Sink l.initial.sink l.sink l.initial.text.bytes l.text.bytes (lines_of given);
  unfinished : g.K.Sink.finishes l.sink ≡ g.K.Sink.finishes l.initial.sink;
}

abbrev pub decreases-loop-slot : goal.decreases-loop-slot
decreases-loop-slot g l = length l.order.held
