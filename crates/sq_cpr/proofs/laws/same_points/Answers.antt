use Rattle.sq_cpr.proofs.Grids.Points.{same_points}
use Rattle.sq_cpr.proofs.laws.same_points.Goals as goal

pub returns : goal.returns
returns g c = same_points g.S.Span.span
