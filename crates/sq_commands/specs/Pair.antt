-- The command `pair`.
use Rattle.std.specs.Prelude.{ℕ, List, Option}
use Rattle.sq_angle.specs.declared.position.Position.{Position}
use Rattle.sq_message.specs.declared.squitter.Squitter.{Squitter}
use Rattle.sq_message.specs.Parts.{squitter_parts}
use Rattle.sq_message.specs.Places.{IsPairPlace}
use Rattle.sq_commands.specs.Arguments.{IsSiteReading}
use Rattle.sq_commands.specs.Faults.{misused}
use Rattle.sq_commands.specs.Frames.{AreReadingsOf, frame_refused}
use Rattle.sq_commands.specs.Local.{IsDecodingReply}
use Rattle.sq_commands.specs.Replies.{IsReplyTo, ReplyParts}

-- the reply is the place of the newer of two squitters, an older and a newer one
abbrev pub IsPairedReply : Option Position → Squitter × Squitter → ReplyParts → Type 0
IsPairedReply site both = IsDecodingReply (IsPairPlace (squitter_parts both.0) (squitter_parts both.1) site)

-- the reply to two frame texts, decoded with a site or with none
abbrev pub IsFramesReply : (older newer : List ℕ) → Option Position → ReplyParts → Type 0
IsFramesReply older newer site = IsReplyTo (AreReadingsOf older newer) (IsPairedReply site) frame_refused

-- the frames are decoded with the site that the words spell, or with none; the arguments are read before the frames
abbrev pub IsPairReply : (older newer : List ℕ) → (lat lon : Option (List ℕ)) → ReplyParts → Type 0
IsPairReply older newer lat lon = IsReplyTo (IsSiteReading lat lon) (IsFramesReply older newer) misused
