-- The complete result of a call of a log that left room.
use Rattle.std.specs.Prelude.{◌≡◌, ◌+◌, ◌<◌, ◌≤◌, ◌++◌, ℕ, List, Option, Some, length, take}
use Rattle.std.specs.List.{AllZip}
use Rattle.sq_commands.specs.declared.formats.Format.{Format}
use Rattle.sq_commands.specs.declared.answers.HeardSquitter.{HeardSquitter}
use Rattle.sq_commands.specs.Formats.{Writers}
use Rattle.sq_commands.specs.Heard.{heard_telling}
use Rattle.sq_commands.specs.SlowAnswers.{AreTrueAnswers}
use Rattle.sq_commands.specs.Tracking.{track_manner}
use Rattle.sq_log.specs.declared.log.Answer.{Answer as Told}
use Rattle.sq_log.specs.Lines.{closed, ended_lines}
use Rattle.sq_log.specs.Logs.{HasHeard}
use Rattle.sq_log.specs.Runs.{told_text}
use Rattle.squitter_c.specs.Faults.{none}
use Rattle.squitter_c.specs.Seal.{Kept}
use Rattle.sq_track.specs.Held.{Held}
use Rattle.squitter_c.specs.declared.log_answer.PlainAnswer.{PlainAnswer}
use Rattle.squitter_c.specs.declared.log_loop.Done.{Done}
use Rattle.squitter_c.specs.LogAnswers.{IsPlainAnswer}
use Rattle.squitter_c.specs.LogCalls.{IsLogFinished, IsLogTaken, log_in}
use Rattle.squitter_c.specs.LogTexts.{IsFormat, IsTextFinished, IsTextTaken}

-- a result is written in one way: its number and fault, and its timestamp, address, kind and `what`
abbrev pub OneAnswer : Type 0
OneAnswer = (answer : Told HeardSquitter) (a b : PlainAnswer) → IsPlainAnswer answer a → IsPlainAnswer answer b
    → (a.number ≡ b.number) × (a.fault ≡ b.fault) × (a.moment ≡ b.moment) × (a.address ≡ b.address)
    × (a.kind ≡ b.kind) × (a.heard.what ≡ b.heard.what)

-- All lines with a line feed in the given bytes were heard. Their results follow the earlier results, and all are
-- true in slow worlds. This is for a piece, as structs.
abbrev pub AllAnswered : Type 0
AllAnswered = (k : Kept) (new : Option Kept) (piece : List ℕ) (was is : List PlainAnswer) (before after : Done)
    (start : Held) (given : List ℕ) (lines : List (List ℕ)) (answers : List (Told HeardSquitter))
    → IsLogTaken (Some k) new piece was is before after none → after.written < length is
    → HasHeard track_manner start (log_in k) given lines answers
    → (after.taken ≡ length piece) × ((next : Kept) × (told : List (Told HeardSquitter)) × (new ≡ Some next)
    × HasHeard track_manner start (log_in next) (given ++ piece) (ended_lines (given ++ piece)) (answers ++ told)
    × AreTrueAnswers start (answers ++ told)
    × AllZip IsPlainAnswer told (take after.written is))

-- at the end of a log, as structs
abbrev pub AllAnsweredAtEnd : Type 0
AllAnsweredAtEnd = (k : Kept) (new : Option Kept) (was is : List PlainAnswer) (before after : Done)
    (start : Held) (given : List ℕ) (lines : List (List ℕ)) (answers : List (Told HeardSquitter))
    → IsLogFinished (Some k) new was is before after none → after.written < length is
    → HasHeard track_manner start (log_in k) given lines answers
    → (next : Kept) × (told : List (Told HeardSquitter)) × (new ≡ Some next)
    × HasHeard track_manner start (log_in next) (closed given) (ended_lines (closed given)) (answers ++ told)
    × AreTrueAnswers start (answers ++ told) × AllZip IsPlainAnswer told (take after.written is)

-- for a piece, as texts
abbrev pub AllTold : Type 0
AllTold = (format : Format) (number : ℕ) (k : Kept) (new : Option Kept) (piece was is : List ℕ) (before after : Done)
    (start : Held) (given : List ℕ) (lines : List (List ℕ)) (answers : List (Told HeardSquitter)) (writers : Writers)
    → IsFormat number format → IsTextTaken number (Some k) new piece was is before after none
    → after.written + 512 ≤ length is → HasHeard track_manner start (log_in k) given lines answers
    → (after.taken ≡ length piece) × ((next : Kept) × (told : List (Told HeardSquitter)) × (new ≡ Some next)
    × HasHeard track_manner start (log_in next) (given ++ piece) (ended_lines (given ++ piece)) (answers ++ told)
    × AreTrueAnswers start (answers ++ told)
    × (take after.written is ≡ told_text ((heard_telling format).text writers) told))

-- at the end of a log, as texts
abbrev pub AllToldAtEnd : Type 0
AllToldAtEnd = (format : Format) (number : ℕ) (k : Kept) (new : Option Kept) (was is : List ℕ) (before after : Done)
    (start : Held) (given : List ℕ) (lines : List (List ℕ)) (answers : List (Told HeardSquitter)) (writers : Writers)
    → IsFormat number format → IsTextFinished number (Some k) new was is before after none
    → after.written + 512 ≤ length is → HasHeard track_manner start (log_in k) given lines answers
    → (next : Kept) × (told : List (Told HeardSquitter)) × (new ≡ Some next)
    × HasHeard track_manner start (log_in next) (closed given) (ended_lines (closed given)) (answers ++ told)
    × AreTrueAnswers start (answers ++ told)
    × (take after.written is ≡ told_text ((heard_telling format).text writers) told)
