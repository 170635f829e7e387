-- The answers of `track` to the lines of a log, each by any contents of the tracker before the line.
use Rattle.std.specs.Prelude.{◌≡◌, ◌≢◌, ℕ, List, [], ◌∷◌, None, Some, Result, Ok, Err}
use Rattle.sq_message.specs.declared.received.Received.{Received}
use Rattle.sq_message.specs.declared.squitter.Squitter.{Squitter}
use Rattle.sq_text.specs.declared.faults.LineFault.{LineFault}
use Rattle.sq_text.specs.declared.faults.LineFault.TheVariants as line_faults
use Rattle.sq_text.specs.Timed.{TimedReader}
use Rattle.sq_log.specs.Content.{Answer, answer_by}
use Rattle.sq_log.specs.declared.job.Verdict.{Verdict}
use Rattle.sq_log.specs.declared.job.Verdict.TheVariants as verdicts
use Rattle.sq_track.specs.declared.heard.Heard.{Heard}
use Rattle.sq_track.specs.declared.heard.TrackFault.{TrackFault}
use Rattle.sq_track.specs.declared.heard.TrackFault.TheVariants.{Memory, MomentBack}
use Rattle.sq_track.specs.ByEntries.{IsHeardByEntries, IsWelcomeTo}
use Rattle.sq_track.specs.Held.{Held}
use Rattle.sq_commands.specs.Heard.{HeardSquitter}

-- The result for a squitter, by the tracker's reply. If memory holds, a timestamp before the last one and a full table
-- are the only faults.
abbrev pub found_of : Received → Result Heard TrackFault → Result HeardSquitter LineFault
found_of timed (Ok heard) = Ok (record { timed = timed; heard = heard })
found_of timed (Err (MomentBack last)) = Err (line_faults.MomentBack last)
found_of timed (Err fault) = Err line_faults.Full

-- the answer to the reading of a line, and the tracker after it; an empty or invalid line changes nothing
abbrev pub IsHeardLineBy : (old : Held) → Answer Received → Answer HeardSquitter → (new : Held) → Type 0
IsHeardLineBy old None answer new = (answer ≡ None) × (new ≡ old)
IsHeardLineBy old (Some (Err fault)) answer new = (answer ≡ Some (Err fault)) × (new ≡ old)
IsHeardLineBy old (Some (Ok timed)) answer new = (reply : Result Heard TrackFault)
    × IsHeardByEntries timed.moment timed.squitter old new reply × (reply ≢ Err Memory)
    × (answer ≡ Some (found_of timed reply))

-- the answers to these lines, each by what the tracker holds before it, and the tracker after all of them
abbrev pub AreHeardLinesBy : TimedReader → (old : Held) → List (List ℕ) → List (Answer HeardSquitter) → (new : Held)
    → Type 0
AreHeardLinesBy reader old [] answers new = (answers ≡ []) × (new ≡ old)
AreHeardLinesBy reader old (line ∷ lines) answers new =
    (first : Answer HeardSquitter) × (next : Held) × (rest : List (Answer HeardSquitter))
    × IsHeardLineBy old (answer_by reader.read line) first next
    × AreHeardLinesBy reader next lines rest new × (answers ≡ first ∷ rest)

-- ---- as a function of the past

-- the replies to calls, and the tracker after them, if memory does not run out
pub record HeldReplier : Type 0 where
  pub reply : Held → ℕ → Squitter → Result Heard TrackFault
  pub after : Held → ℕ → Squitter → Held
  pub replies : (t : Held) (m : ℕ) (q : Squitter) → IsHeardByEntries m q t (after t m q) (reply t m q)
  pub remembers : (t : Held) (m : ℕ) (q : Squitter) → reply t m q ≢ Err Memory

-- the past of a line: what the tracker holds, the reader of lines, and the replies to calls
pub record Holding : Type 0 where
  pub reader : TimedReader
  pub replier : HeldReplier
  pub held : Held

abbrev pub answer_held : Holding → Result Received LineFault → Result HeardSquitter LineFault
answer_held past (Err fault) = Err fault
answer_held past (Ok timed) = found_of timed (past.replier.reply past.held timed.moment timed.squitter)

abbrev pub held_read : Holding → Result Received LineFault → Holding
held_read past (Err fault) = past
held_read past (Ok timed) = record past { held = past.replier.after past.held timed.moment timed.squitter }

-- ---- one squitter

-- a squitter was heard: there is a reply by what the tracker held, with this result
abbrev pub IsFoundBy : Result HeardSquitter LineFault → Received → (old new : Held) → Type 0
IsFoundBy found timed old new =
    (reply : Result Heard TrackFault) × IsHeardByEntries timed.moment timed.squitter old new reply
    × (reply ≢ Err Memory) × (found ≡ found_of timed reply)

-- a squitter was heard; without memory it would be accepted
abbrev pub IsTimedHeardBy : Verdict HeardSquitter → Received → (old new : Held) → Type 0
IsTimedHeardBy (verdicts.Good found) timed old new = IsFoundBy (Ok found) timed old new
IsTimedHeardBy (verdicts.Refused fault) timed old new = IsFoundBy (Err fault) timed old new
IsTimedHeardBy verdicts.NoMemory timed old new = IsWelcomeTo timed.moment timed.squitter old

-- ---- laws

-- what a tracker holds gives at most one list of answers to lines, and one tracker after them
abbrev pub OneListOfAnswers : Type 0
OneListOfAnswers = (reader : TimedReader) (old new other : Held) (lines : List (List ℕ))
    (xs ys : List (Answer HeardSquitter)) → AreHeardLinesBy reader old lines xs new
    → AreHeardLinesBy reader old lines ys other → (xs ≡ ys) × (new ≡ other)

-- each tracker has a past by what it holds
abbrev pub SomeHolding : Type 0
SomeHolding = (t : Held) → (past : Holding) × (past.held ≡ t)
