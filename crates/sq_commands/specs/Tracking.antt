-- The answers of `track` to the lines of a log, each by the squitters before it.
use Rattle.std.specs.Prelude.{◌≡◌, ◌≢◌, ◌↔◌, ◌⊎◌, ◌==◌, ℕ, List, [], ◌∷◌, find, None, Some, Result, Ok, Err}
use Rattle.sq_message.specs.declared.squitter.Squitter.{Squitter}
use Rattle.sq_message.specs.Parts.{squitter_parts}
use Rattle.sq_message.specs.Places.{IsPosition}
use Rattle.sq_text.specs.declared.faults.LineFault.{LineFault}
use Rattle.sq_message.specs.declared.received.Received.{Received}
use Rattle.sq_text.specs.Timed.{IsTimedText, TimedReader}
use Rattle.sq_log.specs.Content.{Answer, answer_by}
use Rattle.sq_log.specs.Answers.{Answerer, Manner}
use Rattle.sq_log.specs.declared.job.Verdict.{Verdict}
use Rattle.sq_log.specs.declared.job.Verdict.TheVariants as verdicts
use Rattle.sq_track.specs.declared.heard.Heard.{Heard}
use Rattle.sq_track.specs.declared.heard.TrackFault.{TrackFault}
use Rattle.sq_track.specs.declared.heard.TrackFault.TheVariants.{Memory}
use Rattle.sq_track.specs.ByEntries.{IsWelcomeTo}
use Rattle.sq_track.specs.Held.{Held, StandsFor, present_of, settings}
use Rattle.sq_track.specs.History.{History}
use Rattle.sq_track.specs.Replies.{Settings, IsAcceptable, IsHistory, IsReply, history_after}
use Rattle.sq_commands.specs.Heard.{HeardSquitter}
pub use Rattle.sq_commands.specs.Holding.{found_of}
use Rattle.sq_commands.specs.Holding.{Holding, answer_held, held_read}

-- ---- by the history

-- the answer to the reading of a line, and the history after it; an empty or invalid line changes nothing
abbrev pub IsHeardLine : Settings → History → Answer Received → Answer HeardSquitter → History → Type 0
IsHeardLine s h None answer next = (answer ≡ None) × (next ≡ h)
IsHeardLine s h (Some (Err fault)) answer next = (answer ≡ Some (Err fault)) × (next ≡ h)
IsHeardLine s h (Some (Ok timed)) answer next = (reply : Result Heard TrackFault)
    × IsReply s h timed.moment timed.squitter reply × (reply ≢ Err Memory)
    × (answer ≡ Some (found_of timed reply)) × (next ≡ history_after h timed.moment timed.squitter reply)

-- the answers to these lines, each by the history before it, and the history after all of them
abbrev pub AreHeardLines : TimedReader → Settings → History → List (List ℕ) → List (Answer HeardSquitter) → History
    → Type 0
AreHeardLines reader s h [] answers next = (answers ≡ []) × (next ≡ h)
AreHeardLines reader s h (line ∷ lines) answers next =
    (first : Answer HeardSquitter) × (then_on : History) × (rest : List (Answer HeardSquitter))
    × IsHeardLine s h (answer_by reader.read line) first then_on
    × AreHeardLines reader s then_on lines rest next × (answers ≡ first ∷ rest)

-- ---- as a function of the past

-- the replies to calls, if memory does not run out
pub record Replier : Type 0 where
  pub reply : (s : Settings) (h : History) → IsHistory s h → ℕ → Squitter → Result Heard TrackFault
  pub replies : (s : Settings) (h : History) (accepted : IsHistory s h) (m : ℕ) (q : Squitter)
      → IsReply s h m q (reply s h accepted m q)
  pub remembers : (s : Settings) (h : History) (accepted : IsHistory s h) (m : ℕ) (q : Squitter)
      → reply s h accepted m q ≢ Err Memory

-- the past of a line: a history, the reader of lines, and the replies to calls
pub record Tracking : Type 0 where
  pub reader : TimedReader
  pub replier : Replier
  pub settings : Settings
  pub history : History
  pub accepted : IsHistory settings history

abbrev pub reply_by : Tracking → Received → Result Heard TrackFault
reply_by past timed = past.replier.reply past.settings past.history past.accepted timed.moment timed.squitter

abbrev pub answer_read : Tracking → Result Received LineFault → Result HeardSquitter LineFault
answer_read past (Err fault) = Err fault
answer_read past (Ok timed) = found_of timed (reply_by past timed)

-- the past after a reply: an accepted call becomes the newest entry
abbrev pub past_with : (past : Tracking) (timed : Received) (reply : Result Heard TrackFault)
    → IsReply past.settings past.history timed.moment timed.squitter reply → Tracking
past_with past timed (Ok heard) is =
    record past {
      history = record { moment = timed.moment; squitter = timed.squitter; heard = heard } ∷ past.history;
      accepted = (is, past.accepted);
    }
past_with past timed (Err fault) is = past

abbrev pub past_read : Tracking → Result Received LineFault → Tracking
past_read past (Err fault) = past
past_read past (Ok timed) =
    past_with past timed (reply_by past timed)
    (past.replier.replies past.settings past.history past.accepted timed.moment timed.squitter)

-- how `track` answers texts by a history
abbrev pub history_way : Answerer Tracking HeardSquitter
history_way = record {
  answer = λ past text. answer_read past (past.reader.read text);
  after = λ past text. past_read past (past.reader.read text);
}

-- the tracker stands for the history, under the settings
abbrev pub IsTracking : Held → Tracking → Type 0
IsTracking t past = StandsFor t past.history × (settings t ≡ past.settings)

-- ---- by the history, or by the contents of the tracker

-- the past of a line: a history that the tracker stands for, or any contents of the tracker
pub data Past : Type 0 where
  ByHistory : (past : Tracking) → Past
  ByEntries : (past : Holding) → Past

abbrev pub answer_text : Past → List ℕ → Result HeardSquitter LineFault
answer_text (ByHistory past) text = answer_read past (past.reader.read text)
answer_text (ByEntries past) text = answer_held past (past.reader.read text)

abbrev pub past_text : Past → List ℕ → Past
past_text (ByHistory past) text = ByHistory (past_read past (past.reader.read text))
past_text (ByEntries past) text = ByEntries (held_read past (past.reader.read text))

-- how `track` answers texts
abbrev pub track_way : Answerer Past HeardSquitter
track_way = record { answer = answer_text; after = past_text }

-- the tracker has this past
abbrev pub IsTrackingBy : Held → Past → Type 0
IsTrackingBy t (ByHistory past) = IsTracking t past
IsTrackingBy t (ByEntries past) = t ≡ past.held

-- the squitter is a position of an address that is not present
abbrev pub IsNewPosition : Held → Squitter → Type 0
IsNewPosition t squitter = IsPosition (squitter_parts squitter).me
    × (find (λ entry. entry.0 == (squitter_parts squitter).address) (present_of t) ≡ None)

-- the squitter would be accepted, after each history that the tracker represents
abbrev pub IsWelcome : Held → Received → Type 0
IsWelcome t timed = (h : History) → StandsFor t h → IsAcceptable (settings t) h timed.moment timed.squitter

-- the tracker may want memory for the text: it spells a position of a new address that would be accepted, by each
-- history and by what the tracker holds
abbrev pub WantsMemory : Held → List ℕ → Type 0
WantsMemory t text =
    (timed : Received) × IsTimedText text timed × IsNewPosition t timed.squitter × IsWelcome t timed
    × IsWelcomeTo timed.moment timed.squitter t

-- how `track` answers texts, by its tracker
abbrev pub track_manner : Manner Held Past HeardSquitter
track_manner = record { stands_for = IsTrackingBy; way = track_way; wants = WantsMemory }

-- a squitter was heard: for each history that the tracker represented there is a reply with this result, and the
-- tracker now represents the history after it
abbrev pub IsFoundOf : Result HeardSquitter LineFault → Received → (old new : Held) → Type 0
IsFoundOf found timed old new =
    (h : History) → StandsFor old h → (reply : Result Heard TrackFault)
    × IsReply (settings old) h timed.moment timed.squitter reply × (reply ≢ Err Memory)
    × (found ≡ found_of timed reply)
    × StandsFor new (history_after h timed.moment timed.squitter reply)

-- a squitter was heard; without memory the tracker is unchanged, and may want some
abbrev pub IsTimedHeard : Verdict HeardSquitter → Received → (old new : Held) → Type 0
IsTimedHeard (verdicts.Good found) timed old new = IsFoundOf (Ok found) timed old new
IsTimedHeard (verdicts.Refused fault) timed old new = IsFoundOf (Err fault) timed old new
IsTimedHeard verdicts.NoMemory timed old new = (new ≡ old) × IsNewPosition old timed.squitter × IsWelcome old timed

-- the reply to a squitter follows from the settings and the history alone
abbrev pub OnePast : Type 0
OnePast = (a b : Tracking) (timed : Received) → a.settings ≡ b.settings → a.history ≡ b.history
    → reply_by a timed ≡ reply_by b timed

-- a tracker has a past by each history that it represents
abbrev pub SomeTracking : Type 0
SomeTracking = (t : Held) (h : History) → StandsFor t h → (past : Tracking) × (past.history ≡ h) × IsTracking t past

-- a past of a tracker is a history that it represents, or what it holds
abbrev pub PastExactly : Type 0
PastExactly = (t : Held) (past : Past) → IsTrackingBy t past
    ↔ (((history : Tracking) × (past ≡ ByHistory history) × IsTracking t history)
    ⊎ ((holding : Holding) × (past ≡ ByEntries holding) × (t ≡ holding.held)))
