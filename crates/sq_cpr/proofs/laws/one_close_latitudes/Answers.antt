use Rattle.sq_cpr.proofs.Distances.CloseLaw.{one_close_latitudes}
use Rattle.sq_cpr.proofs.laws.one_close_latitudes.Goals as goal

pub returns : goal.returns
returns g c = one_close_latitudes g.S.Span.span g.S.Span.full_circle
