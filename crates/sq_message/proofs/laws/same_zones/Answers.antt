use Rattle.sq_message.proofs.SameZones.{same_zones as the_law}
use Rattle.sq_message.proofs.laws.same_zones.Goals as goal

pub returns : goal.returns
returns g c = the_law g.F.Kind.kind
