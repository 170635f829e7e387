use Rattle.std.proofs.Common.{refl}
use Rattle.sq_log.proofs.Logs.{keeps_nothing, told_none}
use Rattle.sq_log.proofs.log.Log.new.Goals as goal

pub returns-clause-heard : goal.returns-clause-heard
returns-clause-heard g c = record {
  kept = keeps_nothing _ _ c.new.ensures.line c.new.ensures.waiting;
  number = refl;
  told = told_none g.J.Job.how c.args.job c.args.job _ refl refl;
}
