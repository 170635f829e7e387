use Rattle.sq_commands.specs.TrueAnswers.{true_answers}
use Rattle.sq_commands.proofs.laws.true_answers.Goals as goal

pub returns : goal.returns
returns c start now tally lines answers told = true_answers start now tally lines answers told
