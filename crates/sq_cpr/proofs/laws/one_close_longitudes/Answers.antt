use Rattle.sq_cpr.proofs.Distances.CloseLaw.{one_close_longitudes}
use Rattle.sq_cpr.proofs.laws.one_close_longitudes.Goals as goal

pub returns : goal.returns
returns g c = one_close_longitudes g.S.Span.span g.S.Span.full_circle
