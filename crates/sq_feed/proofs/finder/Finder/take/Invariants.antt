use Rattle.std.proofs.Common.{◌≡◌, ◌++◌, ◌<◌, length, take}
use Rattle.sq_feed.specs.declared.signs.Sign.TheVariants.{Unclear}
use Rattle.sq_feed.specs.Finding.{HasShown, limit}
use Rattle.sq_feed.proofs.finder.Finder.take.Given as goal

abbrev pub invariant-loop-at : goal.invariant-loop-at
invariant-loop-at l = record {
  held : l.self.held ≡ l.initial.self.held ++ take l.at l.piece;
  room : length l.self.held < limit;
  shows : HasShown Unclear l.initial.self (take l.at l.piece) l.self;
}
