-- The command `check`.
use Rattle.std.specs.Prelude.{◌≡◌, ◌==◌, ◌⊎◌, ℕ, List, Option, Result, Ok, Err, map, if◌then◌else◌}
use Rattle.sq_devices.specs.Changes.{Taken, Written}
use Rattle.sq_message.specs.declared.squitter.Squitter.{Squitter}
use Rattle.sq_text.specs.Reading.{SquitterReader}
use Rattle.sq_log.specs.Content.{Answer, answer_by}
use Rattle.sq_log.specs.Answers.{Answerer, Manner}
use Rattle.sq_log.specs.Runs.{HasRun, WroteAnswers}
use Rattle.sq_log.specs.declared.run.RunFault.{RunFault}
use Rattle.sq_log.specs.declared.log.Tally.{Tally}
use Rattle.sq_commands.specs.declared.status.Status.{Status}
use Rattle.sq_commands.specs.declared.status.Status.TheVariants.{Good, Refused}
use Rattle.sq_commands.specs.declared.arguments.ArgumentFault.TheVariants as faults
use Rattle.sq_commands.specs.declared.formats.Format.{Format}
use Rattle.sq_commands.specs.Faults.{IsMisuse}
use Rattle.sq_commands.specs.Formats.{IsFormatWord, Telling, Writers, told_by}
use Rattle.sq_commands.specs.Replies.{ReplyParts, broken_off, silent}
use Rattle.sq_commands.specs.Squitters.{squitter_telling}

-- how lines are read, and numbers written
pub record Checks : Type 0 where
  pub reader : SquitterReader
  pub writers : Writers

-- the answers to these lines: each line is read by itself as a squitter
abbrev pub check_answers : SquitterReader → List (List ℕ) → List (Answer Squitter)
check_answers reader lines = map (answer_by reader.read) lines

-- `check` answers each text by itself: the past is the reader alone
abbrev pub check_way : Answerer SquitterReader Squitter
check_way = record { answer = λ reader. reader.read; after = λ reader text. reader }

-- The results of `check`: each text is read on its own, without allocation. Every state represents every reader.
abbrev pub check_manner : {State : Type 0} → Manner State SquitterReader Squitter
check_manner = record { stands_for = λ state reader. Unit {0}; way = check_way; wants = λ state text. ⊥ }

-- these lines were answered, and so much of their answers was written as the result says
abbrev pub HasChecked : Telling Squitter → Result Tally RunFault → Written → List (List ℕ) → Type 0
HasChecked telling result output lines = (by : Checks)
    → WroteAnswers result output (told_by telling by.writers) (check_answers by.reader lines)

-- the result of a run over an input; answers are written in this way; no line needs memory
abbrev pub IsChecked : Telling Squitter → Result Tally RunFault → Taken → Written → Type 0
IsChecked telling result input output =
    HasRun (λ line. ⊥) (HasChecked telling result output) result input output

-- the status of a run to the end of its input
abbrev pub status_of : Tally → Status
status_of tally = if tally.refused == 0 then Good else Refused

-- the reply of a run, by its result; if the run stopped early, the reason is reported, and otherwise nothing
abbrev pub run_reply : Result Tally RunFault → ReplyParts
run_reply (Ok tally) = silent (status_of tally)
run_reply (Err fault) = broken_off fault

-- a run over the input
abbrev pub IsCheckRunIn : Format → ReplyParts → Taken → Written → Type 0
IsCheckRunIn format reply input output = (result : Result Tally RunFault)
    × IsChecked (squitter_telling format) result input output × (reply ≡ run_reply result)

-- no format has this name
abbrev pub IsNoFormat : Option (List ℕ) → Type 0
IsNoFormat word = (format : Format) → ¬ IsFormatWord word format

-- the lines of the input are checked in the format that the word names; if it names none, the input is unread
abbrev pub IsCheckRun : (format : Option (List ℕ)) → ReplyParts → Taken → Written → Type 0
IsCheckRun word reply input output =
    ((format : Format) × IsFormatWord word format × IsCheckRunIn format reply input output)
    ⊎ (IsNoFormat word × IsMisuse faults.Format reply input output)
