use Rattle.sq_cpr.proofs.Distances.Exact.{at_the_limits}
use Rattle.sq_cpr.proofs.pins.at_the_limits.Goals as goal

pub returns : goal.returns
returns c = at_the_limits
