use Rattle.std.proofs.Common.{◌<◌, ◌*◌, ◌≢◌, ℕ, get_or}
use Rattle.sq_feed.proofs.cells.position_of.Given as goal

abbrev pub invariant-loop-group : goal.invariant-loop-group
invariant-loop-group l = (k : ℕ) → k < 16 * l.group → get_or l.text k 0 ≢ l.byte
