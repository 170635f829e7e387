use Rattle.sq_cpr.proofs.Decoding.NearLaw.{one_near_latitude}
use Rattle.sq_cpr.proofs.laws.one_near_latitude.Goals as goal

pub returns : goal.returns
returns g c = one_near_latitude g.S.Span.span g.S.Span.full_circle
