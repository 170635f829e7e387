use Rattle.sq_cpr.proofs.Distances.Exact.{near_three_decimals as the_law}
use Rattle.sq_cpr.proofs.pins.near_three_decimals.Goals as goal

pub returns : goal.returns
returns c = the_law
