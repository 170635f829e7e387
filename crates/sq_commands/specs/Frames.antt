-- The frames of a command, read from their texts.
use Rattle.std.specs.Prelude.{◌⊎◌, ℕ, List, Result, Ok, Err}
use Rattle.sq_message.specs.declared.squitter.Squitter.{Squitter}
use Rattle.sq_text.specs.declared.faults.LineFault.{LineFault}
use Rattle.sq_text.specs.Faults.{fault_text}
use Rattle.sq_text.specs.Reading.{IsSquitterReading}
use Rattle.sq_commands.specs.declared.status.Status.TheVariants.{Refused}
use Rattle.sq_commands.specs.Replies.{ReplyParts, reporting}

-- the reply to an invalid frame
abbrev pub frame_refused : LineFault → ReplyParts
frame_refused fault = reporting Refused (fault_text fault)

-- two frame texts are read as both squitters, or as the first fault, the older's before the newer's
abbrev pub AreReadingsOf : (older newer : List ℕ) → Result (Squitter × Squitter) LineFault → Type 0
AreReadingsOf older newer (Ok (first, second)) =
    IsSquitterReading older (Ok first) × IsSquitterReading newer (Ok second)
AreReadingsOf older newer (Err fault) =
    IsSquitterReading older (Err fault)
    ⊎ ((first : Squitter) × IsSquitterReading older (Ok first) × IsSquitterReading newer (Err fault))
