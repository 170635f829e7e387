use Rattle.example_place.proofs.One.{one_answer_near, one_answer_of_pair}
use Rattle.example_place.proofs.laws.one_answer.Goals as goal

pub returns-clause-near : goal.returns-clause-near
returns-clause-near c = one_answer_near

pub returns-clause-pair : goal.returns-clause-pair
returns-clause-pair c = one_answer_of_pair
