use Rattle.sq_cpr.proofs.Decoding.SomeAnswers.{some_local_answer}
use Rattle.sq_cpr.proofs.pins.some_local_answer.Goals as goal

pub returns : goal.returns
returns g c = some_local_answer g.S.Span.span g.S.Span.full_circle
