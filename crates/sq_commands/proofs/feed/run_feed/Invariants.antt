use Rattle.std.proofs.Common.{◌≡◌, [], length}
use Rattle.sq_commands.proofs.FeedRuns.{IsGoing}
use Rattle.sq_commands.proofs.feed.run_feed.Given as goal

abbrev pub invariant-loop-count : goal.invariant-loop-count
invariant-loop-count g l = record {
  room : length l.piece ≡ 16384;
  live : l.is_live ≡ g.C.Clock.live l.initial.clock;
  going : IsGoing l.fn.options g.C.Clock g.S.Source g.K.Sink l.initial.clock l.initial.source l.initial.sink l.clock
      l.source l.sink l.feed l.order l.units;
  none : l.feed.ready ≡ [];
}

abbrev pub decreases-loop-count : goal.decreases-loop-count
decreases-loop-count g l = g.S.Source.gets_left l.source
