use Rattle.sq_cpr.proofs.Distances.SiteLaw.{rounds_near_site}
use Rattle.sq_cpr.proofs.laws.rounds_near_site.Goals as goal

pub returns : goal.returns
returns g c = rounds_near_site g.S.Span.span g.S.Span.full_circle
