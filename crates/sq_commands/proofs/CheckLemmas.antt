-- From a run of any lines to one of `check`.
use Rattle.std.proofs.Common.{◌≡◌, ◌∙◌, ℕ, List, [], ◌∷◌, Result, Ok, Err, IfOk, ap, subst, refl}
use Rattle.sq_devices.specs.Changes.{Taken, TookReported, Written}
use Rattle.sq_message.specs.declared.squitter.Squitter.{Squitter}
use Rattle.sq_text.specs.Reading.{IsSquitterReading, SquitterReader}
use Rattle.sq_text.specs.declared.faults.LineFault.{LineFault}
use Rattle.sq_text.proofs.OneReading.{one_squitter_reading}
use Rattle.sq_log.specs.Lines.{lines_of}
use Rattle.sq_log.specs.Content.{Content, Long, Empty, Text, answer_by, content}
use Rattle.sq_log.specs.Answers.{Manner, WantsAt, after_content, answers_to}
use Rattle.sq_log.specs.Runs.{HasToldBy, IsRun, WroteAnswers}
use Rattle.sq_log.specs.declared.run.RunFault.{RunFault}
use Rattle.sq_log.specs.declared.log.Tally.{Tally}
use Rattle.sq_log.proofs.Running.{run_as, run_reported}
use Rattle.sq_commands.specs.Check.{HasChecked, IsChecked, check_answers, check_manner, check_way}
use Rattle.sq_commands.specs.Formats.{Telling, told_by}

-- a line leaves the reader of `check` unchanged
after-check : (reader : SquitterReader) (stands : Content) → after_content (λ text. reader) reader stands ≡ reader
after-check reader Long = refl
after-check reader Empty = refl
after-check reader (Text text) = refl

-- the answers of a fold that remembers nothing are a map
answers-check : (reader : SquitterReader) (lines : List (List ℕ))
    → answers_to check_way reader lines ≡ check_answers reader lines
answers-check reader [] = refl
answers-check reader (line ∷ lines) =
    ap (λ next. answer_by reader.read line ∷ answers_to check_way next lines) (after-check reader (content line))
    ∙ ap (λ answers. answer_by reader.read line ∷ answers) (answers-check reader lines)

-- a text that was read by itself
pub text_read : (text : List ℕ) (found : Result Squitter LineFault) → IsSquitterReading text found
    → (reader : SquitterReader) → Unit {0} → (reader.read text ≡ found) × Unit {0}
text_read text found is reader st =
    (one_squitter_reading text (reader.read text) found (reader.reads text) is, tt)

-- `check` keeps no state
abbrev how : Manner (Unit {0}) SquitterReader Squitter
how = check_manner

module _ (telling : Telling Squitter) (result : Result Tally RunFault) (input : Taken) (output : Written) where
  told-check : (lines : List (List ℕ)) → HasToldBy telling.header telling.text how tt tt result output lines
      → HasChecked telling result output lines
  told-check lines told by =
      subst (WroteAnswers result output (told_by telling by.writers)) (answers-check by.reader lines)
      (told by.reader by.writers tt).1

  -- a run of any lines, as one of `check`
  pub checked : IsRun telling.header telling.text how tt tt result input output → IsChecked telling result input output
  checked ran =
      run_as (WantsAt how tt) (λ line. ⊥) (HasToldBy telling.header telling.text how tt tt result output)
      (HasChecked telling result output) (λ line wants. wants.2) told-check result input output ran

-- where the source reports its bytes, the answers are those to all of them
pub checked_reported : (telling : Telling Squitter) (result : Result Tally RunFault) (input : Taken) (output : Written)
    → IsChecked telling result input output
    → IfOk result (λ tally. TookReported input (λ read. HasChecked telling result output (lines_of read)))
checked_reported telling (Ok tally) input output is =
    run_reported (λ line. ⊥) (HasChecked telling (Ok tally) output) tally input output is
checked_reported telling (Err fault) input output is = tt
