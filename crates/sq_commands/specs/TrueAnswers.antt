-- A proof that the answers of `track` are true in slow worlds. The job's ghost law cites it, so it is in specs/.
use Rattle.std.specs.Prelude.{◌+◌, ℕ, List, [], ◌∷◌, Some, Result, Ok, Err, refl}
use Rattle.std.proofs.Common.{◌≡◌, ◌∙◌, ap, sym, subst}
use Rattle.sq_message.specs.declared.received.Received.{Received}
use Rattle.sq_text.specs.declared.faults.LineFault.{LineFault}
use Rattle.sq_text.specs.Timed.{TimedReader}
use Rattle.sq_log.specs.Answers.{after_content, answers_to, past_after}
use Rattle.sq_log.specs.Content.{Answer, Content, Long, Empty, Text, answer_content, content}
use Rattle.sq_log.specs.Logs.{AreAnswers, told_from}
use Rattle.sq_log.specs.declared.log.Answer.{Answer as Told}
use Rattle.sq_log.specs.declared.log.Tally.{Tally}
use Rattle.sq_track.specs.declared.heard.Heard.{Heard}
use Rattle.sq_track.specs.declared.heard.TrackFault.{TrackFault}
use Rattle.sq_track.specs.declared.heard.TrackFault.TheVariants.{NoLimit, Memory, MomentBack, Full}
use Rattle.sq_track.specs.Held.{Held, settings}
use Rattle.sq_track.specs.History.{History}
use Rattle.sq_track.specs.Replies.{AreReplies, IsHistory, IsReply, Settings}
use Rattle.sq_text.proofs.TimedReadings.{some_timed_reading}
use Rattle.sq_track.proofs.Histories.SomeAnswer.{some_reply}
use Rattle.sq_track.proofs.Worlds.TrueWorlds.{slow_replies_are_true}
use Rattle.sq_commands.specs.Heard.{HeardSquitter}
use Rattle.sq_commands.specs.SlowAnswers.{AreTrueAfter, AreTrueAnswers, heard_in, received_in}
use Rattle.sq_commands.specs.Tracking.{ByHistory, IsTracking, Past, Replier, Tracking, answer_read}
use Rattle.sq_commands.specs.Tracking.{found_of, history_way, past_read, past_with, reply_by, track_manner, track_way}

-- each text has a reading
pub some_reader : TimedReader
some_reader = record { read = λ text. (some_timed_reading text).0; reads = λ text. (some_timed_reading text).1 }

-- the replies by a history: each call has one
pub replier : Replier
replier = record {
  reply = λ s h accepted m q. (some_reply s h m q accepted).0;
  replies = λ s h accepted m q. (some_reply s h m q accepted).1;
  remembers = λ s h accepted m q. (some_reply s h m q accepted).2;
}

-- the past with this history
abbrev pub start : TimedReader → (s : Settings) (h : History) → IsHistory s h → Tracking
start reader s h accepted =
    record { reader = reader; replier = replier; settings = s; history = h; accepted = accepted }

-- a history's past stays one
after_by_history : (past : Tracking) (stands : Content)
    → after_content (track_way.after (ByHistory past)) (ByHistory past) stands
    ≡ ByHistory (after_content (history_way.after past) past stands)
after_by_history past Long = refl
after_by_history past Empty = refl
after_by_history past (Text text) = refl

pub answers_by_history : (past : Tracking) (lines : List (List ℕ))
    → answers_to track_way (ByHistory past) lines ≡ answers_to history_way past lines
answers_by_history past [] = refl
answers_by_history past (line ∷ lines) =
    let next = after_content (history_way.after past) past (content line) in
    ap (λ (answers : List (Answer HeardSquitter)). answer_content (history_way.answer past) (content line) ∷ answers)
    (ap (λ (p : Past). answers_to track_way p lines) (after_by_history past (content line))
    ∙ answers_by_history next lines)

pub past_by_history : (past : Tracking) (lines : List (List ℕ))
    → past_after track_way (ByHistory past) lines ≡ ByHistory (past_after history_way past lines)
past_by_history past [] = refl
past_by_history past (line ∷ lines) =
    ap (λ (p : Past). past_after track_way p lines) (after_by_history past (content line))
    ∙ past_by_history (after_content (history_way.after past) past (content line)) lines

-- the answers to good lines are the tracker's replies, one after another, after the past's history
abbrev AreRepliesAfter : Tracking → ℕ → List (Answer HeardSquitter) → Type 0
AreRepliesAfter past n answers =
    AreReplies past.settings past.history (received_in (told_from n answers)) (heard_in (told_from n answers))

reply_first : (past : Tracking) (timed : Received) (reply : Result Heard TrackFault)
    (is : IsReply past.settings past.history timed.moment timed.squitter reply) (rest : List (Answer HeardSquitter))
    (n : ℕ) → AreRepliesAfter (past_with past timed reply is) (n + 1) rest
    → AreRepliesAfter past n (Some (found_of timed reply) ∷ rest)
reply_first past timed (Ok heard) is rest n later = (is, later)
reply_first past timed (Err NoLimit) is rest n later = later
reply_first past timed (Err Memory) is rest n later = later
reply_first past timed (Err (MomentBack last)) is rest n later = later
reply_first past timed (Err Full) is rest n later = later

text_first : (past : Tracking) (read : Result Received LineFault) (rest : List (Answer HeardSquitter)) (n : ℕ)
    → AreRepliesAfter (past_read past read) (n + 1) rest → AreRepliesAfter past n (Some (answer_read past read) ∷ rest)
text_first past (Err fault) rest n later = later
text_first past (Ok timed) rest n later =
    reply_first past timed (reply_by past timed)
    (past.replier.replies past.settings past.history past.accepted timed.moment timed.squitter) rest n later

line_first : (past : Tracking) (stands : Content) (rest : List (Answer HeardSquitter)) (n : ℕ)
    → AreRepliesAfter (after_content (history_way.after past) past stands) (n + 1) rest
    → AreRepliesAfter past n (answer_content (history_way.answer past) stands ∷ rest)
line_first past Long rest n later = later
line_first past Empty rest n later = later
line_first past (Text text) rest n later = text_first past (past.reader.read text) rest n later

replies_in : (past : Tracking) (lines : List (List ℕ)) (n : ℕ)
    → AreRepliesAfter past n (answers_to history_way past lines)
replies_in past [] n = tt
replies_in past (line ∷ lines) n =
    let next = after_content (history_way.after past) past (content line) in
    line_first past (content line) (answers_to history_way next lines) n (replies_in next lines (n + 1))

-- the answers to these lines are true after the past's history
pub true_after : (tracker : Held) (past : Tracking) (lines : List (List ℕ)) → IsTracking tracker past
    → AreTrueAfter tracker past.history (told_from 1 (answers_to history_way past lines))
true_after tracker past lines tracks world arrivals arises slow follows among is =
    let told = told_from 1 (answers_to history_way past lines) in
    slow_replies_are_true (settings tracker) world arrivals past.history (heard_in told) tracks.0.accepted arises slow
    follows among
    (subst (λ received. AreReplies (settings tracker) past.history received (heard_in told)) (sym is)
    (subst (λ s. AreReplies s past.history (received_in told) (heard_in told)) (sym tracks.1)
    (replies_in past lines 1)))

-- the answers of a log machine of `track` are true
pub true_answers : (old now : Held) (tally : Tally) (lines : List (List ℕ)) (answers : List (Told HeardSquitter))
    → AreAnswers track_manner old now tally lines answers → AreTrueAnswers old answers
true_answers old now tally lines answers told history stands =
    let past = start some_reader (settings old) history stands.accepted in
    subst (λ (told : List (Told HeardSquitter)). AreTrueAfter old history told)
    (sym ((told (ByHistory past) (stands, refl)).1 ∙ ap (told_from 1) (answers_by_history past lines)))
    (true_after old past lines (stands, refl))
