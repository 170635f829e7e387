use Rattle.sq_zones.proofs.ByValue.{fewer_towards_poles}
use Rattle.sq_zones.proofs.laws.fewer_towards_poles.Goals as goal

pub returns : goal.returns
returns c = fewer_towards_poles
