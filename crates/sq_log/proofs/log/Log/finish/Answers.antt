use Rattle.sq_log.specs.Lines.{closed}
use Rattle.sq_log.proofs.log.Log.finish.Goals as goal

pub returns-clause-finished : goal.returns-clause-finished
returns-clause-finished g c start given lines answers h up =
    c.step.ensures.stepped start (closed given) lines answers (c.end.ensures.ended start given lines answers h up)

pub returns-clause-promised : goal.returns-clause-promised
returns-clause-promised g c start given lines answers h up =
    c.step.ensures.promised start (closed given) lines answers (c.end.ensures.ended start given lines answers h up)
