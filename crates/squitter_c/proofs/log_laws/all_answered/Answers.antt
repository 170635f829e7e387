use Rattle.squitter_c.proofs.LogAll.{all_answered, all_answered_at_end}
use Rattle.squitter_c.proofs.log_laws.all_answered.Goals as goal

pub returns-clause-taken : goal.returns-clause-taken
returns-clause-taken c = all_answered

pub returns-clause-finished : goal.returns-clause-finished
returns-clause-finished c = all_answered_at_end
