-- Each command that reads no input has one reply, which is not `Broken`.
use Rattle.sq_commands.specs.Requests.{AskedReply, Show, Encode, Local, Pair}
use Rattle.sq_commands.specs.Runs.{IsReplyOf}
use Rattle.sq_commands.proofs.SoundReplies.{IsSound}
use Rattle.sq_commands.proofs.OneRuns.Frames.{sound_local, sound_pair, sound_show}
use Rattle.sq_commands.proofs.OneRuns.Sent.{sound_encode}

pub sound : (words : AskedReply) → IsSound (IsReplyOf words)
sound (Show frame) = sound_show frame
sound (Encode words) = sound_encode words
sound (Local frame lat lon) = sound_local frame lat lon
sound (Pair older newer lat lon) = sound_pair older newer lat lon
