use Rattle.std.proofs.Common.{Ok, Err}
use Rattle.sq_commands.proofs.CheckLemmas.{text_read}
use Rattle.sq_commands.proofs.check.CheckingJob.hear.Goals as goal

pub returns-in-Ok-clause-heard : goal.returns-in-Ok-clause-heard
returns-in-Ok-clause-heard g c =
    text_read c.args.text.now (Ok c.in-Ok.squitter) c.in-Ok.ensures

pub returns-in-Err-clause-heard : goal.returns-in-Err-clause-heard
returns-in-Err-clause-heard g c =
    text_read c.args.text.now (Err c.in-Err.fault) c.in-Err.ensures
