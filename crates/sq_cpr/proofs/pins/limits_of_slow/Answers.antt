use Rattle.std.proofs.Common.{refl}
use Rattle.sq_cpr.proofs.pins.limits_of_slow.Goals as goal

pub returns-clause-words : goal.returns-clause-words
returns-clause-words c = λ w n m. (refl, refl)
