use Rattle.squitter_c.proofs.OrderSteps.{all_flushed, all_sorted}
use Rattle.squitter_c.proofs.order_laws.all_sorted.Goals as goal

pub returns-clause-taken : goal.returns-clause-taken
returns-clause-taken c = all_sorted

pub returns-clause-flushed : goal.returns-clause-flushed
returns-clause-flushed c = all_flushed
