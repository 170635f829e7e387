use Rattle.std.proofs.Common.{subst, sym}
use Rattle.sq_log.specs.Logs.{HasHeard}
use Rattle.sq_log.specs.Runs.{fed}
use Rattle.sq_log.proofs.run.end_if.Goals as goal

pub returns-then-ended-clause-heard : goal.returns-then-ended-clause-heard
returns-then-ended-clause-heard g c start given lines answers h up =
    subst (λ e. HasHeard g.J.Job.how start c.end.new.self (fed e given) lines answers)
    (sym c.if-ended.true)
    (c.end.ensures.ended start given lines answers h (up c.if-ended.true))
