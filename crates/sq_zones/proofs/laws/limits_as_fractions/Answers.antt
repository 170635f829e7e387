use Rattle.sq_zones.proofs.ByValue.{limits_as_fractions}
use Rattle.sq_zones.proofs.laws.limits_as_fractions.Goals as goal

pub returns : goal.returns
returns c = limits_as_fractions
