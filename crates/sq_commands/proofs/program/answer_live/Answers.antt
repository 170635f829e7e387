use Rattle.sq_commands.specs.Replies.{reply_parts}
use Rattle.sq_commands.proofs.program.answer_live.Goals as goal

pub returns-in-Check : goal.returns-in-Check
returns-in-Check g c =
    let end = c.report_end.ensures in
    rw c.in-Check.is (reply_parts c.check.result, c.check.ensures, (end.status, end.reported))

pub returns-in-Track : goal.returns-in-Track
returns-in-Track g c =
    let end = c.report_end-in-Track.ensures in
    rw c.in-Track.is (reply_parts c.track.result, c.track.ensures, (end.status, end.reported))

pub returns-in-Feed : goal.returns-in-Feed
returns-in-Feed g c =
    let end = c.report_end-in-Feed.ensures in
    rw c.in-Feed.is (reply_parts c.feed.result, c.feed.ensures, (end.status, end.reported))
