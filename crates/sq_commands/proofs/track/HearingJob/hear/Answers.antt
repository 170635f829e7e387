use Rattle.sq_commands.proofs.TrackLemmas.{text_heard, text_refused}
use Rattle.sq_commands.proofs.track.HearingJob.hear.Goals as goal

pub returns-in-Ok-clause-heard : goal.returns-in-Ok-clause-heard
returns-in-Ok-clause-heard g c =
    text_heard _ c.args.text.now c.in-Ok.timed c.hear.result c.args.self.now.format c.args.self.now.tracker
    c.hear.new.tracker c.in-Ok.ensures c.hear.ensures.settings c.hear.ensures.heard c.hear.ensures.entries

pub returns-in-Err-clause-heard : goal.returns-in-Err-clause-heard
returns-in-Err-clause-heard g c =
    text_refused c.args.text.now c.in-Err.fault c.args.self.now.tracker.now c.in-Err.ensures
