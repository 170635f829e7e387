use Rattle.std.proofs.Common.{ap, rules, subst₂}
use Rattle.sq_devices.specs.Changes.{taken_from, written_on}
use Rattle.sq_track.specs.Held.{Held}
use Rattle.sq_commands.specs.Heard.{heard_telling}
use Rattle.sq_commands.specs.Track.{IsTracked, IsTrackedBy}
use Rattle.sq_commands.proofs.TrackLemmas.{tracked, tracked_by, tracked_reported}
use Rattle.sq_commands.proofs.track.run_track_as.Goals as goal

pub returns-clause-ran : goal.returns-clause-ran
returns-clause-ran g c =
    let telling = (heard_telling g.F.AnswerFormat.chosen) in
    let input = taken_from g.S.Source c.args.source.now c.run_log.new.source in
    let output = written_on g.K.Sink c.args.sink.now c.run_log.new.sink in
    subst₂ (λ (before tracker : Held). IsTracked telling c.run_log.result input output before tracker)
    (ap (λ job. job.tracker.now) c.new.ensures.job) (search rules)
    (tracked telling c.run_log.result input output c.new.result.job.tracker.now c.run_log.new.log.job.tracker.now
    c.run_log.ensures.ran)

pub returns-clause-entries : goal.returns-clause-entries
returns-clause-entries g c =
    let telling = (heard_telling g.F.AnswerFormat.chosen) in
    let input = taken_from g.S.Source c.args.source.now c.run_log.new.source in
    let output = written_on g.K.Sink c.args.sink.now c.run_log.new.sink in
    subst₂ (λ (before tracker : Held). IsTrackedBy telling c.run_log.result input output before tracker)
    (ap (λ job. job.tracker.now) c.new.ensures.job) (search rules)
    (tracked_by telling c.run_log.result input output c.new.result.job.tracker.now c.run_log.new.log.job.tracker.now
    c.run_log.ensures.ran)

pub returns-clause-reported : goal.returns-clause-reported
returns-clause-reported g c =
    tracked_reported (heard_telling g.F.AnswerFormat.chosen) c.run_log.result _ _ _ _ (returns-clause-ran g c)
