-- The command `show`.
use Rattle.std.specs.Prelude.{ℕ, List}
use Rattle.sq_text.specs.Reading.{IsSquitterReading}
use Rattle.sq_text.specs.Show.{IsShown}
use Rattle.sq_commands.specs.Frames.{frame_refused}
use Rattle.sq_commands.specs.Replies.{IsAnswer, IsReplyTo, ReplyParts}

-- the reply is the fields of the frame text's squitter, or the frame's fault
abbrev pub IsShowReply : List ℕ → ReplyParts → Type 0
IsShowReply frame = IsReplyTo (IsSquitterReading frame) (λ squitter. IsAnswer (IsShown squitter)) frame_refused
