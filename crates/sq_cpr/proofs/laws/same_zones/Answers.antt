use Rattle.sq_cpr.proofs.Grids.Codes.{same_zones}
use Rattle.sq_cpr.proofs.laws.same_zones.Goals as goal

pub returns : goal.returns
returns g c = same_zones g.S.Span.span g.S.Span.full_circle
