use Rattle.sq_cpr.proofs.Decoding.PairPoints.{pair_keeps_code}
use Rattle.sq_cpr.proofs.laws.pair_keeps_code.Goals as goal

pub returns : goal.returns
returns g c = pair_keeps_code g.S.Span.span
