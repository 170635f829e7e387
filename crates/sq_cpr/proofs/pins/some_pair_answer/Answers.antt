use Rattle.sq_cpr.proofs.Decoding.SomeAnswers.{some_air_pair_answer, some_pair_answer}
use Rattle.sq_cpr.proofs.pins.some_pair_answer.Goals as goal

pub returns-clause-at_a_place : goal.returns-clause-at_a_place
returns-clause-at_a_place g c = some_pair_answer g.S.Span.span g.S.Span.full_circle

pub returns-clause-in_air : goal.returns-clause-in_air
returns-clause-in_air g c = some_air_pair_answer
