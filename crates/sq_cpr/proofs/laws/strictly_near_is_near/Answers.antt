use Rattle.sq_cpr.proofs.Decoding.NearLaw.{strictly_near_is_near}
use Rattle.sq_cpr.proofs.laws.strictly_near_is_near.Goals as goal

pub returns : goal.returns
returns g c = strictly_near_is_near g.S.Span.span
