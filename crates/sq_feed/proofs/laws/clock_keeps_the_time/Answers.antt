use Rattle.sq_feed.proofs.Clocks.{keeps_the_time}
use Rattle.sq_feed.proofs.laws.clock_keeps_the_time.Goals as goal

pub returns : goal.returns
returns c = keeps_the_time
