use Rattle.sq_cpr.proofs.Distances.Exact.{point_within_exactly}
use Rattle.sq_cpr.proofs.pins.within_exactly.Goals as goal

pub returns-clause-points : goal.returns-clause-points
returns-clause-points g c = point_within_exactly g.S.Span.span g.S.Span.full_circle
