-- What is replied to a squitter follows from the settings and the history.
use Rattle.std.proofs.Common.{subst₂, sym}
use Rattle.sq_track.specs.Replies.{IsReply}
use Rattle.sq_track.proofs.Histories.OneReply.{one_reply}
use Rattle.sq_commands.specs.Tracking.{OnePast, reply_by}

pub one_past : OnePast
one_past a b timed settings history =
    let m = timed.moment in
    let q = timed.squitter in
    one_reply a.settings a.history m q (reply_by a timed) (reply_by b timed)
    (a.replier.remembers a.settings a.history a.accepted m q) (b.replier.remembers b.settings b.history b.accepted m q)
    (a.replier.replies a.settings a.history a.accepted m q)
    (subst₂ (λ s h. IsReply s h m q (reply_by b timed)) (sym settings) (sym history)
    (b.replier.replies b.settings b.history b.accepted m q))
