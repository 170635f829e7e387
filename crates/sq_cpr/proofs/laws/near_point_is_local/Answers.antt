use Rattle.sq_cpr.proofs.Decoding.NearLaw.{near_point_is_local}
use Rattle.sq_cpr.proofs.laws.near_point_is_local.Goals as goal

pub returns : goal.returns
returns g c = near_point_is_local g.S.Span.span g.S.Span.full_circle
