use Rattle.squitter_c.proofs.LogAll.{all_told, all_told_at_end}
use Rattle.squitter_c.proofs.log_laws.all_told.Goals as goal

pub returns-clause-taken : goal.returns-clause-taken
returns-clause-taken c = all_told

pub returns-clause-finished : goal.returns-clause-finished
returns-clause-finished c = all_told_at_end
