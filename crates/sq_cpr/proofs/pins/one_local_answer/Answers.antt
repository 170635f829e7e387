use Rattle.sq_cpr.proofs.Decoding.NearLaw.{one_local_answer}
use Rattle.sq_cpr.proofs.pins.one_local_answer.Goals as goal

pub returns : goal.returns
returns g c = one_local_answer g.S.Span.span g.S.Span.full_circle
