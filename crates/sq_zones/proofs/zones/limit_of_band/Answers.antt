use Rattle.sq_zones.proofs.Bands.{place_small}
use Rattle.sq_zones.proofs.zones.limit_of_band.Goals as goal

pub returns-clause-at_most : goal.returns-clause-at_most
returns-clause-at_most c = place_small c.args.scaled c.requires
