use Rattle.sq_cpr.proofs.Grids.Points.{rounds_to_itself}
use Rattle.sq_cpr.proofs.laws.rounds_to_itself.Goals as goal

pub returns : goal.returns
returns g c = rounds_to_itself g.S.Span.span g.S.Span.full_circle
