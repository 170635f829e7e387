use Rattle.sq_cpr.proofs.Grids.Codes.{one_pair_of_zones}
use Rattle.sq_cpr.proofs.pins.one_pair_of_zones.Goals as goal

pub returns : goal.returns
returns g c = one_pair_of_zones g.S.Span.span g.S.Span.full_circle
