use Rattle.std.proofs.Common.{refl}
use Rattle.sq_log.proofs.Logs.{heard_more, on_ok}
use Rattle.sq_log.proofs.log.Log.get_from.Goals as goal

pub returns-clause-got : goal.returns-clause-got
returns-clause-got g c start given lines answers h up =
    on_ok c.get_from.result
    (λ keeps. heard_more g.J.Job.how start _ given lines answers h _ _ refl refl refl keeps)
    (c.get_from.ensures.got given lines h.kept up)
