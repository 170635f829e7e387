use Rattle.sq_message.proofs.Exact.{each_has_its_zones as the_law}
use Rattle.sq_message.proofs.laws.each_has_its_zones.Goals as goal

pub returns : goal.returns
returns g c = the_law g.F.Kind.kind
