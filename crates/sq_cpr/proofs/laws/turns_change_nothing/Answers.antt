use Rattle.sq_cpr.proofs.Distances.Exact.{turns_change_nothing}
use Rattle.sq_cpr.proofs.laws.turns_change_nothing.Goals as goal

pub returns : goal.returns
returns c = turns_change_nothing
