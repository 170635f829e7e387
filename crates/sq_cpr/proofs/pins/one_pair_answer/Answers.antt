use Rattle.sq_cpr.proofs.Decoding.PairLaw.{one_pair_answer}
use Rattle.sq_cpr.proofs.pins.one_pair_answer.Goals as goal

pub returns : goal.returns
returns g c = one_pair_answer g.S.Span.span g.S.Span.full_circle
