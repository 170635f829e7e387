use Rattle.sq_log.proofs.log.Log.end.Goals as goal

pub returns-clause-ended : goal.returns-clause-ended
returns-clause-ended g c start given lines answers h up =
    record { kept = c.close.ensures.closed given lines h.kept up; number = h.number; told = h.told }
