use Rattle.sq_cpr.proofs.Grids.Points.{rounds_to_one}
use Rattle.sq_cpr.proofs.laws.rounds_to_one.Goals as goal

pub returns : goal.returns
returns g c = rounds_to_one g.S.Span.span g.S.Span.full_circle
