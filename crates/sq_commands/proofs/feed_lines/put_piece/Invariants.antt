use Rattle.std.proofs.Common.{◌≡◌, ◌+◌, ◌-◌, ◌≤◌, [], length, take}
use Rattle.sq_feed.specs.Feeds.{steps_for, steps_left}
use Rattle.sq_feed.specs.Readers.{HasEnded}
use Rattle.sq_feed.specs.Units.{watched_all}
use Rattle.sq_commands.specs.Feed.{HasLined, HasPutSorted, HasToldText}
use Rattle.sq_commands.proofs.feed_lines.put_piece.Given as goal

-- the lines of the squitters that were given were made, or of those that were due
abbrev pub invariant-loop-slot : goal.invariant-loop-slot
invariant-loop-slot g l = record {
  within : l.at ≤ length l.piece;
  ended : length l.piece ≡ 0 → HasEnded l.initial.feed.reader → HasEnded l.feed.reader;
  told : HasToldText l.arrival l.initial.feed (take l.at l.piece) l.feed
      (λ came. HasPutSorted l.initial.order l.order came (HasLined g.K.Sink l.initial.sink l.sink [] l.text.bytes)
      × (l.units ≡ watched_all l.initial.units came));
  unfinished : g.K.Sink.finishes l.sink ≡ g.K.Sink.finishes l.initial.sink;
}

abbrev pub decreases-loop-slot : goal.decreases-loop-slot
decreases-loop-slot g l = steps_left l.feed + steps_for (length l.piece - l.at)
