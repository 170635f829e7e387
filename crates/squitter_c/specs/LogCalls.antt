-- Calls of a log.
use Rattle.std.specs.Prelude.{◌≡◌, ◌≤◌, ◌<◌, ◌⊎◌, ◌+◌, ◌*◌, ◌++◌, ◌^◌, ⊤, ℕ, List, [], Option, None, Some, drop, length, take}
use Rattle.std.specs.List.{AllZip}
use Rattle.sq_devices.specs.Device.{IsPrefixOf}
use Rattle.sq_log.specs.declared.log.Answer.{Answer as Told}
use Rattle.sq_log.specs.declared.log.Log.{Log}
use Rattle.sq_log.specs.declared.state.LogState.{LogState}
use Rattle.sq_log.specs.Answers.{WantsAt}
use Rattle.sq_log.specs.Lines.{closed, ended_lines, with_next}
use Rattle.sq_log.specs.Logs.{HasHeard, IsUpToDate}
use Rattle.sq_log.specs.Runs.{told_text}
use Rattle.sq_log.specs.States.{with_job}
use Rattle.sq_track.specs.Held.{Held}
use Rattle.sq_commands.specs.declared.track.Hearing.{Hearing}
use Rattle.sq_commands.specs.declared.answers.HeardSquitter.{HeardSquitter}
use Rattle.sq_commands.specs.Formats.{Telling, Writers}
use Rattle.sq_commands.specs.SlowAnswers.{AreTrueAnswers}
use Rattle.sq_commands.specs.Tracking.{track_manner}
use Rattle.squitter_c.specs.declared.faults.Fault.{Fault}
use Rattle.squitter_c.specs.declared.faults.Reason.TheVariants as reasons
use Rattle.squitter_c.specs.Faults.{fault_of, none}
use Rattle.squitter_c.specs.Seal.{Kept}
use Rattle.squitter_c.specs.declared.log_answer.PlainAnswer.{PlainAnswer}
use Rattle.squitter_c.specs.declared.log_new.PlainTally.{PlainTally}
use Rattle.squitter_c.specs.declared.log_loop.Done.{Done}
use Rattle.squitter_c.specs.declared.log_loop.End.{End}
use Rattle.squitter_c.specs.declared.log_loop.End.TheVariants as ends
use Rattle.squitter_c.specs.LogAnswers.{IsPlainAnswer}

-- a machine over a borrowed tracker, as one over the tracker itself
abbrev pub held_by : {F A : Type 0} → Log (Hearing F A) → Log Held
held_by log = record {
  job = log.job.tracker.now;
  number = log.number;
  tally = log.tally;
  window = log.window;
  counted = log.counted;
}

-- the log of a listener
abbrev pub log_in : Kept → Log Held
log_in k = with_job k.tracker k.log

-- How a call ended, after these bytes were given and these lines were heard. Either all lines with a line feed were
-- heard; or there is no room; or the tracker may need memory for the next line.
abbrev pub IsEndOf : End → Log Held → (given : List ℕ) → (lines : List (List ℕ)) → Type 0
IsEndOf ends.Fed log given lines = IsUpToDate log × (lines ≡ ended_lines given)
IsEndOf ends.Full log given lines = ⊤
IsEndOf ends.NoMemory log given lines =
    (next : List ℕ) × IsPrefixOf (with_next lines next) (ended_lines given) × WantsAt track_manner log.job next

-- the form in which results are written: a list of plain results, or a text
abbrev pub Written : Type 0 → Type 1
Written X = List (Told HeardSquitter) → List X → Type 0

-- as plain results
abbrev pub AsAnswers : Written PlainAnswer
AsAnswers answers plain = AllZip IsPlainAnswer answers plain

-- as the texts of a format
abbrev pub AsTexts : Telling HeardSquitter → Written ℕ
AsTexts telling answers text = (writers : Writers) → text ≡ told_text (telling.text writers) answers

-- The log has heard more lines of the given bytes, and their results are written after the earlier ones. In slow
-- worlds all results so far are true.
pub record HasGone {X : Type 0} (As : Written X) (start : Held) (end : End) (log : Log Held) (given : List ℕ)
    (lines : List (List ℕ)) (answers told : List (Told HeardSquitter)) (written : List X) : Type 0 where
  pub more : List (List ℕ)
  pub now_told : List (Told HeardSquitter)
  pub heard : HasHeard track_manner start log given (lines ++ more) (answers ++ now_told)
  pub written_are : As (told ++ now_told) written
  pub ended : IsEndOf end log given (lines ++ more)
  pub are_true : AreTrueAnswers start (answers ++ now_told)

-- The log goes on with these bytes, whatever it has heard of the bytes before. Its new results are written after the
-- earlier ones.
abbrev pub GoesOn : {X : Type 0} → Written X → End → (old new : Log Held) → (bytes : List ℕ) → (before after : List X)
    → Type 0
GoesOn As end old new bytes before after =
    (start : Held) (given : List ℕ) (lines : List (List ℕ)) (answers told : List (Told HeardSquitter))
    → HasHeard track_manner start old given lines answers → As told before
    → HasGone As start end new (given ++ bytes) lines answers told after

-- The same at the end of a log: once all results are written, the last line has one too, which has no line feed.
abbrev pub GoesToTheEnd : {X : Type 0} → Written X → End → (old new : Log Held) → (before after : List X) → Type 0
GoesToTheEnd As end old new before after =
    (start : Held) (given : List ℕ) (lines : List (List ℕ)) (answers told : List (Told HeardSquitter))
    → HasHeard track_manner start old given lines answers → As told before
    → (all : List ℕ) × (closed all ≡ closed given) × (end ≡ ends.Fed → all ≡ closed given)
    × HasGone As start end new all lines answers told after

-- what the counts say about how a call ended, where a result needs so much room
abbrev pub IsEndTold : (needed : ℕ) → End → Done → (given room : ℕ) → Type 0
IsEndTold needed ends.Fed done given room = done.taken ≡ given
IsEndTold needed ends.Full done given room = room < done.written + needed
IsEndTold needed ends.NoMemory done given room = ⊤

-- the fault of an end
abbrev pub fault_of_end : End → Fault
fault_of_end ends.Fed = none
fault_of_end ends.Full = none
fault_of_end ends.NoMemory = fault_of reasons.Memory

-- the log has 2^63 lines, or the piece more than 2^61 bytes
abbrev pub IsTooLong : LogState → ℕ → Type 0
IsTooLong state size = (2 ^ 63 ≤ state.number) ⊎ (2 ^ 61 < size)

-- The log heard more lines of a piece, and their results are written from index `from` of the output on.
pub record HasGoneOn {X F A : Type 0} (As : Written X) (end : End) (old new : Log (Hearing F A)) (piece : List ℕ)
    (was is : List X) (from : ℕ) (done : Done) : Type 0 where
  pub gone : GoesOn As end (held_by old) (held_by new) (take done.taken piece) (take from was) (take done.written is)
  pub taken : done.taken ≤ length piece
  pub written : (from ≤ done.written) × (done.written ≤ length is)
  pub rest : drop done.written is ≡ drop done.written was
  pub number : new.number ≤ old.number + length old.window.waiting + 2 * length piece + 1
  pub lasting : new.job.tracker.ghost_name ≡ old.job.tracker.ghost_name

-- A call wrote `done.written` elements at the front of the array, and left the rest unchanged.
pub record IsWrittenTo {X : Type 0} (was is : List X) (done : Done) (size : ℕ) : Type 0 where
  pub taken : done.taken ≤ size
  pub written : done.written ≤ length is
  pub long : length is ≡ length was
  pub rest : drop done.written is ≡ drop done.written was

-- the log goes on with the bytes that were taken of the piece
abbrev pub HasTaken : {X : Type 0} → Written X → (needed : ℕ) → (old new : Kept) → (piece : List ℕ) → (was is : List X)
    → Done → Fault → Type 0
HasTaken As needed old new piece was is done fault = (end : End)
    × GoesOn As end (log_in old) (log_in new) (take done.taken piece) [] (take done.written is)
    × IsWrittenTo was is done (length piece) × IsEndTold needed end done (length piece) (length is)
    × (fault ≡ fault_of_end end)

-- the log goes to its end
abbrev pub HasFinished : {X : Type 0} → Written X → (needed : ℕ) → (old new : Kept) → (was is : List X) → Done → Fault
    → Type 0
HasFinished As needed old new was is done fault = (end : End)
    × GoesToTheEnd As end (log_in old) (log_in new) [] (take done.written is)
    × IsWrittenTo was is done 0 × IsEndTold needed end done 0 (length is) × (fault ≡ fault_of_end end)

-- The effect of a call on a listener: the log went on; or the log or the piece is too long, and nothing changed.
abbrev pub IsOfListener : {X : Type 0} → (old new : Kept) → (size : ℕ) → (was is : List X) → (before after : Done)
    → Fault → Type 0 → Type 0
IsOfListener old new size was is before after fault Going =
    ((¬ (IsTooLong old.log size)) × Going)
    ⊎ (IsTooLong old.log size × (new ≡ old) × (is ≡ was) × (after ≡ before) × (fault ≡ fault_of reasons.LongLog))

-- the effect of taking a piece on a listener
abbrev pub IsTakenBy : {X : Type 0} → Written X → (needed : ℕ) → (old new : Kept) → (piece : List ℕ) → (was is : List X)
    → (before after : Done) → Fault → Type 0
IsTakenBy As needed old new piece was is before after fault =
    IsOfListener old new (length piece) was is before after fault
    (HasTaken As needed old new piece was is after fault)

-- the effect of finishing on a listener
abbrev pub IsFinishedBy : {X : Type 0} → Written X → (needed : ℕ) → (old new : Kept) → (was is : List X)
    → (before after : Done) → Fault → Type 0
IsFinishedBy As needed old new was is before after fault =
    IsOfListener old new 0 was is before after fault (HasFinished As needed old new was is after fault)

-- the effect of a call on a log; or there is no log, nothing changes, and the fault says so
abbrev pub IsOfLog : {X : Type 0} → (old new : Option Kept) → (was is : List X) → (before after : Done) → Fault
    → (Kept → Kept → Type 0) → Type 0
IsOfLog (Some k) new was is before after fault By = (next : Kept) × (new ≡ Some next) × By k next
IsOfLog None new was is before after fault By =
    (new ≡ None) × (is ≡ was) × (after ≡ before) × (fault ≡ fault_of reasons.NoTracker)

-- the effect of taking a piece on a log, as structs
abbrev pub IsLogTaken : (old new : Option Kept) → (piece : List ℕ) → (was is : List PlainAnswer)
    → (before after : Done) → Fault → Type 0
IsLogTaken old new piece was is before after fault = IsOfLog old new was is before after fault
    (λ k next. IsTakenBy AsAnswers 1 k next piece was is before after fault)

-- the effect of finishing on a log, as structs
abbrev pub IsLogFinished : (old new : Option Kept) → (was is : List PlainAnswer) → (before after : Done) → Fault
    → Type 0
IsLogFinished old new was is before after fault = IsOfLog old new was is before after fault
    (λ k next. IsFinishedBy AsAnswers 1 k next was is before after fault)

-- the numbers of good and of refused lines, or the fault if there is no log
abbrev pub IsTallied : Option Kept → (was is : PlainTally) → Fault → Type 0
IsTallied (Some k) was is fault =
    (is.good ≡ k.log.tally.good) × (is.refused ≡ k.log.tally.refused) × (fault ≡ none)
IsTallied None was is fault = (is ≡ was) × (fault ≡ fault_of reasons.NoTracker)
