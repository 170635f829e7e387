use Rattle.sq_devices.specs.Changes.{taken_from, written_on}
use Rattle.sq_commands.specs.Squitters.{squitter_telling}
use Rattle.sq_commands.proofs.CheckLemmas.{checked, checked_reported}
use Rattle.sq_commands.proofs.check.run_check_as.Goals as goal

pub returns-clause-ran : goal.returns-clause-ran
returns-clause-ran g c =
    let input = taken_from g.S.Source c.args.source.now c.run_log.new.source in
    let output = written_on g.K.Sink c.args.sink.now c.run_log.new.sink in
    checked (squitter_telling g.F.AnswerFormat.chosen) c.run_log.result input output c.run_log.ensures.ran

pub returns-clause-reported : goal.returns-clause-reported
returns-clause-reported g c =
    checked_reported (squitter_telling g.F.AnswerFormat.chosen) c.run_log.result _ _ (returns-clause-ran g c)
