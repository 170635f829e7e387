use Rattle.sq_zones.proofs.ByValue.{zones_by_value}
use Rattle.sq_zones.proofs.laws.zones_by_value.Goals as goal

pub returns : goal.returns
returns c = zones_by_value
