use Rattle.sq_commands.proofs.HeldAnswers.{answers_entered}
use Rattle.sq_commands.proofs.laws.answers_by_entries.Goals as goal

pub returns : goal.returns
returns c = answers_entered
