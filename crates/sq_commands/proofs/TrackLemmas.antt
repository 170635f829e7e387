-- What is answered to the lines of a log.
use Rattle.std.proofs.Common.{◌≡◌, ◌≢◌, ◌∙◌, Bor, MutBor, ◌∷◌, [], ℕ, List, None, Some, Result, Ok, Err, IfOk}
use Rattle.std.proofs.Common.{ap, sym, subst, subst₂, refl}
use Rattle.sq_devices.specs.Changes.{Taken, TookReported, Written}
use Rattle.sq_text.specs.declared.faults.LineFault.{LineFault}
use Rattle.sq_message.specs.declared.received.Received.{Received}
use Rattle.sq_text.specs.Timed.{IsTimedReading, TimedReader}
use Rattle.sq_text.proofs.TimedReadings.{one_timed_reading}
use Rattle.sq_log.specs.Answers.{WantsAt, after_content, after_line, answer_line, answers_to, past_after}
use Rattle.sq_log.specs.Hearings.{IsHeard}
use Rattle.sq_log.specs.declared.job.Verdict.{Verdict}
use Rattle.sq_log.specs.declared.job.Verdict.TheVariants as verdicts
use Rattle.sq_log.specs.Content.{Answer, Content, Long, Empty, Text, answer_by, answer_content, content}
use Rattle.sq_log.specs.Lines.{lines_of}
use Rattle.sq_log.specs.Runs.{HasToldBy, IsRun, WroteAnswers}
use Rattle.sq_log.specs.declared.run.RunFault.{RunFault}
use Rattle.sq_log.specs.declared.log.Tally.{Tally}
use Rattle.sq_log.proofs.Running.{run_as, run_reported}
use Rattle.sq_track.specs.declared.heard.Heard.{Heard}
use Rattle.sq_track.specs.declared.heard.TrackFault.{TrackFault}
use Rattle.sq_track.specs.declared.heard.TrackFault.TheVariants as track_faults
use Rattle.sq_track.specs.Held.{Held, StandsFor, settings}
use Rattle.sq_track.specs.History.{History}
use Rattle.sq_track.specs.Replies.{Settings, IsReply, history_after}
use Rattle.sq_track.specs.ByEntries.{IsHeardByEntries}
use Rattle.sq_track.proofs.Histories.ByEntries.{one_by_entries, some_by_entries}
use Rattle.sq_track.proofs.Histories.OneReply.{one_reply}
use Rattle.sq_commands.specs.declared.formats.Format.{Format}
use Rattle.sq_commands.specs.Formats.{Telling, told_by}
use Rattle.sq_commands.specs.Heard.{HeardSquitter, heard_telling}
use Rattle.sq_commands.specs.Holding.{AreHeardLinesBy, HeldReplier, Holding, IsFoundBy, IsHeardLineBy, IsTimedHeardBy}
use Rattle.sq_commands.specs.Holding.{answer_held, held_read}
use Rattle.sq_commands.specs.TrueAnswers.{answers_by_history, past_by_history, start, true_after}
use Rattle.sq_commands.specs.declared.track.Hearing.{Hearing}
use Rattle.sq_commands.specs.Track.{HasTracked, HasTrackedBy, IsTracked, IsTrackedBy, hearing_manner}
use Rattle.sq_commands.specs.Tracking.{AreHeardLines, ByEntries, ByHistory, IsFoundOf, IsHeardLine, IsTimedHeard}
use Rattle.sq_commands.specs.Tracking.{IsTracking, IsTrackingBy, Past, Tracking, answer_read, answer_text, found_of}
use Rattle.sq_commands.specs.Tracking.{history_way, past_read, past_text, past_with, reply_by, track_manner, track_way}

history_with : (past : Tracking) (timed : Received) (reply : Result Heard TrackFault)
    (is : IsReply past.settings past.history timed.moment timed.squitter reply)
    → (past_with past timed reply is).history ≡ history_after past.history timed.moment timed.squitter reply
history_with past timed (Ok heard) is = refl
history_with past timed (Err fault) is = refl

settings_with : (past : Tracking) (timed : Received) (reply : Result Heard TrackFault)
    (is : IsReply past.settings past.history timed.moment timed.squitter reply)
    → (past_with past timed reply is).settings ≡ past.settings
settings_with past timed (Ok heard) is = refl
settings_with past timed (Err fault) is = refl

-- the tracker's reply is the one by what came before
timed_heard : (past : Tracking) (timed : Received) (new : Held) (reply : Result Heard TrackFault)
    → IsReply past.settings past.history timed.moment timed.squitter reply → reply ≢ Err track_faults.Memory
    → StandsFor new (history_after past.history timed.moment timed.squitter reply) → settings new ≡ past.settings
    → (found_of timed reply ≡ answer_read past (Ok timed)) × IsTracking new (past_read past (Ok timed))
timed_heard past timed new reply is remembers stands same =
    let by = past.replier.replies past.settings past.history past.accepted timed.moment timed.squitter in
    let one : reply ≡ reply_by past timed =
    one_reply past.settings past.history timed.moment timed.squitter reply (reply_by past timed) remembers
    (past.replier.remembers past.settings past.history past.accepted timed.moment timed.squitter) is by in
    let after : history_after past.history timed.moment timed.squitter reply
    ≡ (past_with past timed (reply_by past timed) by).history =
    ap (history_after past.history timed.moment timed.squitter) one
    ∙ sym (history_with past timed (reply_by past timed) by) in (
      ap (found_of timed) one,
      (subst (StandsFor new) after stands, same ∙ sym (settings_with past timed (reply_by past timed) by)),
    )

-- ---- texts

-- the same borrow of another tracker
abbrev with_tracker : {F A : Type 0} → MutBor Held → Bor F → Held → Hearing F A
with_tracker lent format tracker = record { tracker = record lent { now = tracker }; format = format }

-- a text that spells a squitter is heard as `hear` says
pub text_found : (text : List ℕ) (timed : Received) (found : Result HeardSquitter LineFault) (old new : Held)
    → IsTimedReading text (Ok timed) → settings new ≡ settings old → IsFoundOf found timed old new
    → (past : Tracking) → IsTracking old past
    → (answer_read past (past.reader.read text) ≡ found) × IsTracking new (past_read past (past.reader.read text))
text_found text timed found old new spells same heard past st =
    let h = heard past.history st.0 in
    let one : Ok timed ≡ past.reader.read text =
    one_timed_reading text (Ok timed) (past.reader.read text) spells (past.reader.reads text) in
    let is = subst (λ (s : Settings). IsReply s past.history timed.moment timed.squitter h.0) st.1 h.1 in
    let t = timed_heard past timed new h.0 is h.2 h.4 (same ∙ st.1) in
    subst (λ (read : Result Received LineFault). (answer_read past read ≡ found) × IsTracking new (past_read past read))
    one (sym t.0 ∙ sym h.3, t.1)

-- a text is heard by what the tracker holds
text_entered : (text : List ℕ) (timed : Received) (found : Result HeardSquitter LineFault) (old new : Held)
    → IsTimedReading text (Ok timed) → IsFoundBy found timed old new → (past : Holding) → old ≡ past.held
    → (answer_held past (past.reader.read text) ≡ found) × (new ≡ (held_read past (past.reader.read text)).held)
text_entered text timed found old new spells (reply, heard, had, is) past held =
    let m = timed.moment in
    let q = timed.squitter in
    let read : Ok timed ≡ past.reader.read text =
    one_timed_reading text (Ok timed) (past.reader.read text) spells (past.reader.reads text) in
    let one = one_by_entries m q past.held new (past.replier.after past.held m q) reply
    (past.replier.reply past.held m q) had (past.replier.remembers past.held m q)
    (subst (λ (t : Held). IsHeardByEntries m q t new reply) held heard) (past.replier.replies past.held m q) in
    subst (λ (r : Result Received LineFault). (answer_held past r ≡ found) × (new ≡ (held_read past r).held)) read
    (ap (found_of timed) (sym one.0) ∙ sym is, one.1)

text_found_by : (text : List ℕ) (timed : Received) (found : Result HeardSquitter LineFault) (old new : Held)
    → IsTimedReading text (Ok timed) → settings new ≡ settings old → IsFoundOf found timed old new
    → IsFoundBy found timed old new → (past : Past) → IsTrackingBy old past
    → (answer_text past text ≡ found) × IsTrackingBy new (past_text past text)
text_found_by text timed found old new spells same heard by (ByHistory past) st =
    text_found text timed found old new spells same heard past st
text_found_by text timed found old new spells same heard by (ByEntries past) st =
    text_entered text timed found old new spells by past st

pub text_heard : (A : Type 0) (text : List ℕ) (timed : Received) (verdict : Verdict HeardSquitter) {F : Type 0}
    (format : Bor F) (lent : MutBor Held) (new : Held)
    → IsTimedReading text (Ok timed) → settings new ≡ settings lent.now → IsTimedHeard verdict timed lent.now new
    → IsTimedHeardBy verdict timed lent.now new
    → IsHeard (hearing_manner {F = F} {A = A}) verdict text (record { tracker = lent; format = format })
    (with_tracker lent format new)
text_heard A text timed (verdicts.Good found) format lent new spells same heard by =
    text_found_by text timed (Ok found) lent.now new spells same heard by
text_heard A text timed (verdicts.Refused fault) format lent new spells same heard by =
    text_found_by text timed (Err fault) lent.now new spells same heard by
text_heard A text timed verdicts.NoMemory format lent new spells same heard by =
    (ap (with_tracker lent format) heard.0, (timed, spells, heard.1, heard.2, by))

-- a text at fault is refused, and the tracker stays
pub text_refused : (text : List ℕ) (fault : LineFault) (now : Held) → IsTimedReading text (Err fault)
    → (past : Past) → IsTrackingBy now past
    → (answer_text past text ≡ Err fault) × IsTrackingBy now (past_text past text)
text_refused text fault now is (ByEntries past) st =
    let one : Err fault ≡ past.reader.read text =
    one_timed_reading text (Err fault) (past.reader.read text) is (past.reader.reads text) in
    subst (λ (read : Result Received LineFault). (answer_held past read ≡ Err fault)
    × (now ≡ (held_read past read).held)) one (refl, st)
text_refused text fault now is (ByHistory past) st =
    let one : Err fault ≡ past.reader.read text =
    one_timed_reading text (Err fault) (past.reader.read text) is (past.reader.reads text) in
    subst (λ (read : Result Received LineFault). (answer_read past read ≡ Err fault)
    × IsTracking now (past_read past read)) one (refl, st)

-- ---- many lines

-- what came before, after what was read of a line
abbrev past_heard : Tracking → Answer Received → Tracking
past_heard past None = past
past_heard past (Some read) = past_read past read

-- the answer to what was read of a line
abbrev answer_heard : Tracking → Answer Received → Answer HeardSquitter
answer_heard past None = None
answer_heard past (Some read) = Some (answer_read past read)

-- by what stands on a line it is the same
after-heard : (past : Tracking) (stands : Content)
    → after_content (λ text. past_read past (past.reader.read text)) past stands
    ≡ past_heard past (answer_content past.reader.read stands)
after-heard past Long = refl
after-heard past Empty = refl
after-heard past (Text text) = refl

answer-heard : (past : Tracking) (stands : Content)
    → answer_content (λ text. answer_read past (past.reader.read text)) stands
    ≡ answer_heard past (answer_content past.reader.read stands)
answer-heard past Long = refl
answer-heard past Empty = refl
answer-heard past (Text text) = refl

-- the answer to a line by what came before it is one by the history
line_heard : (past : Tracking) (read : Answer Received)
    → IsHeardLine past.settings past.history read (answer_heard past read) (past_heard past read).history
line_heard past None = (refl, refl)
line_heard past (Some (Err fault)) = (refl, refl)
line_heard past (Some (Ok timed)) =
    let by = past.replier.replies past.settings past.history past.accepted timed.moment timed.squitter in (
      reply_by past timed,
      by,
      past.replier.remembers past.settings past.history past.accepted timed.moment
          timed.squitter,
      refl,
      history_with past timed (reply_by past timed) by,
    )

settings_heard : (past : Tracking) (read : Answer Received) → (past_heard past read).settings ≡ past.settings
settings_heard past None = refl
settings_heard past (Some (Err fault)) = refl
settings_heard past (Some (Ok timed)) =
    settings_with past timed (reply_by past timed)
    (past.replier.replies past.settings past.history past.accepted timed.moment timed.squitter)

reader_with : (past : Tracking) (timed : Received) (reply : Result Heard TrackFault)
    (is : IsReply past.settings past.history timed.moment timed.squitter reply)
    → (past_with past timed reply is).reader ≡ past.reader
reader_with past timed (Ok heard) is = refl
reader_with past timed (Err fault) is = refl

reader_heard : (past : Tracking) (read : Answer Received) → (past_heard past read).reader ≡ past.reader
reader_heard past None = refl
reader_heard past (Some (Err fault)) = refl
reader_heard past (Some (Ok timed)) =
    reader_with past timed (reply_by past timed)
    (past.replier.replies past.settings past.history past.accepted timed.moment timed.squitter)

pub lines_heard : (past : Tracking) (lines : List (List ℕ))
    → AreHeardLines past.reader past.settings past.history lines (answers_to history_way past lines)
    (past_after history_way past lines).history
lines_heard past [] = (refl, refl)
lines_heard past (line ∷ lines) =
    let read = answer_by past.reader.read line in
    let next = after_line history_way past line in
    let same : next ≡ past_heard past read = after-heard past (content line) in
    let rest = lines_heard next lines in
    let answers = answers_to history_way next lines in
    let end = (past_after history_way next lines).history in (
      answer_line history_way past line,
      next.history,
      answers,
      subst₂ (λ (a : Answer HeardSquitter) (h : History). IsHeardLine past.settings past.history read a h)
          (sym (answer-heard past (content line))) (sym (ap (λ (p : Tracking). p.history) same)) (line_heard past read),
      subst₂ (λ (r : TimedReader) (s : Settings). AreHeardLines r s next.history lines answers end)
          (ap (λ (p : Tracking). p.reader) same ∙ reader_heard past read)
          (ap (λ (p : Tracking). p.settings) same ∙ settings_heard past read) rest,
      refl,
    )

-- ---- runs

told-track : (telling : Telling HeardSquitter) (result : Result Tally RunFault) (output : Written) (old new : Held)
    (lines : List (List ℕ)) → HasToldBy telling.header telling.text track_manner old new result output lines
    → HasTracked telling old new result output lines
told-track telling result output old new lines told reader writers h stands =
    let past = start reader (settings old) h stands.accepted in
    let one = told (ByHistory past) writers (stands, refl) in (
      answers_to history_way past lines,
      (past_after history_way past lines).history,
      lines_heard past lines,
      (subst (IsTrackingBy new) (past_by_history past lines) one.0).0,
      true_after old past lines (stands, refl),
      subst (λ (answers : List (Answer HeardSquitter)). WroteAnswers result output (told_by telling writers) answers)
          (answers_by_history past lines) one.1,
    )

-- ---- by what the tracker holds

-- each tracker has a reply to each squitter
pub held_replier : HeldReplier
held_replier = record {
  reply = λ t m q. (some_by_entries m q t).1;
  after = λ t m q. (some_by_entries m q t).0;
  replies = λ t m q. (some_by_entries m q t).2;
  remembers = λ t m q. (some_by_entries m q t).3;
}

abbrev held_next : Holding → Answer Received → Holding
held_next past None = past
held_next past (Some read) = held_read past read

abbrev held_answer : Holding → Answer Received → Answer HeardSquitter
held_answer past None = None
held_answer past (Some read) = Some (answer_held past read)

-- by what stands on a line it is the same
after_held : (past : Holding) (stands : Content)
    → after_content (track_way.after (ByEntries past)) (ByEntries past) stands
    ≡ ByEntries (held_next past (answer_content past.reader.read stands))
after_held past Long = refl
after_held past Empty = refl
after_held past (Text text) = refl

answer_entered : (past : Holding) (stands : Content)
    → answer_content (track_way.answer (ByEntries past)) stands
    ≡ held_answer past (answer_content past.reader.read stands)
answer_entered past Long = refl
answer_entered past Empty = refl
answer_entered past (Text text) = refl

line_entered : (past : Holding) (read : Answer Received)
    → IsHeardLineBy past.held read (held_answer past read) (held_next past read).held
line_entered past None = (refl, refl)
line_entered past (Some (Err fault)) = (refl, refl)
line_entered past (Some (Ok timed)) = (
  past.replier.reply past.held timed.moment timed.squitter,
  past.replier.replies past.held timed.moment timed.squitter,
  past.replier.remembers past.held timed.moment timed.squitter,
  refl,
)

reader_next : (past : Holding) (read : Answer Received) → (held_next past read).reader ≡ past.reader
reader_next past None = refl
reader_next past (Some (Err fault)) = refl
reader_next past (Some (Ok timed)) = refl

-- the answers to these lines, and the tracker after them
pub lines_entered : (past : Holding) (lines : List (List ℕ)) (end : Held)
    → IsTrackingBy end (past_after track_way (ByEntries past) lines)
    → AreHeardLinesBy past.reader past.held lines (answers_to track_way (ByEntries past) lines) end
lines_entered past [] end is = (refl, is)
lines_entered past (line ∷ lines) end is =
    let read = answer_by past.reader.read line in
    let next = held_next past read in
    let after : after_line track_way (ByEntries past) line ≡ ByEntries next = after_held past (content line) in
    let rest = lines_entered next lines end
    (subst (λ (p : Past). IsTrackingBy end (past_after track_way p lines)) after is) in (
      held_answer past read,
      next.held,
      answers_to track_way (ByEntries next) lines,
      line_entered past read,
      subst (λ (r : TimedReader). AreHeardLinesBy r next.held lines (answers_to track_way (ByEntries next) lines) end)
          (reader_next past read) rest,
      ap (λ (a : Answer HeardSquitter).
          a ∷ answers_to track_way (after_line track_way (ByEntries past) line) lines)
          (answer_entered past (content line))
          ∙ ap (λ (p : Past). held_answer past read ∷ answers_to track_way p lines) after,
    )

told_held : (telling : Telling HeardSquitter) (result : Result Tally RunFault) (output : Written) (old new : Held)
    (lines : List (List ℕ)) → HasToldBy telling.header telling.text track_manner old new result output lines
    → HasTrackedBy telling old new result output lines
told_held telling result output old new lines told reader writers =
    let past : Holding = record { reader = reader; replier = held_replier; held = old } in
    let one = told (ByEntries past) writers refl in
    (answers_to track_way (ByEntries past) lines, lines_entered past lines new one.0, one.1)

-- a run of any lines, by what the tracker holds
pub tracked_by : (telling : Telling HeardSquitter) (result : Result Tally RunFault) (input : Taken) (output : Written)
    (old new : Held) → IsRun telling.header telling.text track_manner old new result input output
    → IsTrackedBy telling result input output old new
tracked_by telling result input output old new ran =
    run_as (WantsAt track_manner new) (WantsAt track_manner new)
    (HasToldBy telling.header telling.text track_manner old new result output)
    (HasTrackedBy telling old new result output) (λ line wants. wants) (told_held telling result output old new)
    result input output ran

-- a run of any lines, as one of `track`
pub tracked : (telling : Telling HeardSquitter) (result : Result Tally RunFault) (input : Taken) (output : Written)
    (old new : Held) → IsRun telling.header telling.text track_manner old new result input output
    → IsTracked telling result input output old new
tracked telling result input output old new ran =
    run_as (WantsAt track_manner new) (WantsAt track_manner new)
    (HasToldBy telling.header telling.text track_manner old new result output)
    (HasTracked telling old new result output) (λ line wants. wants) (told-track telling result output old new)
    result input output ran

-- where the source reports its bytes, the answers are those to all of them
pub tracked_reported : (telling : Telling HeardSquitter) (result : Result Tally RunFault) (input : Taken)
    (output : Written) (old new : Held) → IsTracked telling result input output old new
    → IfOk result (λ tally. TookReported input (λ read. HasTracked telling old new result output (lines_of read)))
tracked_reported telling (Ok tally) input output old new is =
    run_reported (WantsAt track_manner new) (HasTracked telling old new (Ok tally) output) tally input output is
tracked_reported telling (Err fault) input output old new is = tt

-- a run in one format, by another name of it
pub tracked_in : (a b : Format) (result : Result Tally RunFault) (input : Taken) (output : Written) (old new : Held)
    → a ≡ b → IsTracked (heard_telling b) result input output old new
    → IsTracked (heard_telling a) result input output old new
tracked_in a b result input output old new same is =
    subst (λ (format : Format). IsTracked (heard_telling format) result input output old new) (sym same) is
