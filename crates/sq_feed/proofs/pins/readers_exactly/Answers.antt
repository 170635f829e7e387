use Rattle.sq_feed.proofs.Sourced.{ending_works, nothing_left}
use Rattle.sq_feed.proofs.pins.readers_exactly.Goals as goal

pub returns-clause-ended : goal.returns-clause-ended
returns-clause-ended c = nothing_left

pub returns-clause-ending : goal.returns-clause-ending
returns-clause-ending c = ending_works
