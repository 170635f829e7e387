-- A run of each command.
use Rattle.sq_devices.specs.Changes.{Taken, TookNothing, Written}
use Rattle.sq_devices.specs.Clocks.{Times, recorded}
use Rattle.sq_commands.specs.Requests.{Asked, AskedReply, Reply, Show, Encode, Local, Pair, Check, Track, Feed}
use Rattle.sq_commands.specs.declared.status.Status.{Status}
use Rattle.sq_commands.specs.Check.{IsCheckRun}
use Rattle.sq_commands.specs.Encode.{IsEncodeReply}
use Rattle.sq_commands.specs.Feed.{IsFeedRun}
use Rattle.sq_commands.specs.Local.{IsLocalReply}
use Rattle.sq_commands.specs.Outputs.{Effects}
use Rattle.sq_commands.specs.Pair.{IsPairReply}
use Rattle.sq_commands.specs.Replies.{IsDelivered, IsReported, ReplyParts}
use Rattle.sq_commands.specs.Show.{IsShowReply}
use Rattle.sq_commands.specs.Track.{IsTrackRun}

-- the input is unread, and a reply that has this property is delivered
abbrev pub IsReplied : (ReplyParts → Type 0) → Status → Effects → Type 0
IsReplied Is status e =
    (reply : ReplyParts) × Is reply × TookNothing e.input × IsDelivered reply status e.outputs

-- the input is read and the output written so that a reply has this property, and the reply's line is reported
abbrev pub IsStreamed : (ReplyParts → Taken → Written → Type 0) → Status → Effects → Type 0
IsStreamed Is status e = (reply : ReplyParts) × Is reply e.input e.outputs.output
    × IsReported reply status e.outputs.reports

-- the reply of each command that reads no input
abbrev pub IsReplyOf : AskedReply → ReplyParts → Type 0
IsReplyOf (Show frame) = IsShowReply frame
IsReplyOf (Encode words) = IsEncodeReply words
IsReplyOf (Local frame lat lon) = IsLocalReply frame lat lon
IsReplyOf (Pair older newer lat lon) = IsPairReply older newer lat lon

-- the effects and the status of each command, by the clock that `feed` reads
abbrev pub IsTimedRun : Times → Asked → Status → Effects → Type 0
IsTimedRun clock (Reply words) status e = IsReplied (IsReplyOf words) status e
IsTimedRun clock (Check format) status e = IsStreamed (IsCheckRun format) status e
IsTimedRun clock (Track words) status e = IsStreamed (IsTrackRun words) status e
IsTimedRun clock (Feed words) status e = IsStreamed (IsFeedRun words clock) status e

-- the same of a recorded input
abbrev pub IsRun : Asked → Status → Effects → Type 0
IsRun = IsTimedRun recorded
