use Rattle.sq_cpr.proofs.Decoding.NearLaw.{strictly_near_point_is_local}
use Rattle.sq_cpr.proofs.laws.strictly_near_point_is_local.Goals as goal

pub returns : goal.returns
returns g c = strictly_near_point_is_local g.S.Span.span g.S.Span.full_circle
