use Rattle.std.proofs.Common.{◌≡◌, ◌+◌, false, drop}
use Rattle.sq_feed.specs.Cells.{bare_comma}
use Rattle.sq_feed.proofs.cells.bare_comma.Given as goal

abbrev pub invariant-loop-at : goal.invariant-loop-at
invariant-loop-at l = bare_comma false l.text ≡ l.at + bare_comma l.quoted (drop l.at l.text)
