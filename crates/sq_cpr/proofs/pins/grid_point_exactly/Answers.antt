use Rattle.std.proofs.Common.{refl}
use Rattle.sq_cpr.proofs.Decoding.TameAnswers.{grid_point_exactly as the_law}
use Rattle.sq_cpr.proofs.pins.grid_point_exactly.Goals as goal

pub returns-clause-point : goal.returns-clause-point
returns-clause-point g c = the_law g.S.Span.span

pub returns-clause-zones : goal.returns-clause-zones
returns-clause-zones g c = (refl, refl)
