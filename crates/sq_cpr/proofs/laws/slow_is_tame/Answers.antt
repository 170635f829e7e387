use Rattle.sq_cpr.proofs.Distances.SlowLaw.{slow_is_tame}
use Rattle.sq_cpr.proofs.laws.slow_is_tame.Goals as goal

pub returns : goal.returns
returns g c = slow_is_tame g.S.Span.span g.S.Span.full_circle
