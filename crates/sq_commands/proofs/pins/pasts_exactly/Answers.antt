use Rattle.sq_commands.proofs.HeldAnswers.{one_list_of_answers, past_exactly, some_holding, some_tracking}
use Rattle.sq_commands.proofs.pins.pasts_exactly.Goals as goal

pub returns-clause-history : goal.returns-clause-history
returns-clause-history c = some_tracking

pub returns-clause-holding : goal.returns-clause-holding
returns-clause-holding c = some_holding

pub returns-clause-past : goal.returns-clause-past
returns-clause-past c = past_exactly

pub returns-clause-one : goal.returns-clause-one
returns-clause-one c = one_list_of_answers
