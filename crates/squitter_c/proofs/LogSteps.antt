-- Storing the results of a log machine in an array.
use Rattle.std.proofs.Common.{◌≡◌, ◌≢◌, ◌==◌, if◌then◌else◌, zero, suc, Bool, true, false, ◌≤◌, ◌+◌, ◌-◌, ◌++◌, ◌∷◌, ◌∙◌, ℕ, List, [], ap, append-nil, append_assoc, arith, drop, set}
use Rattle.std.proofs.Common.{length, refl, subst, sym, take}
use Rattle.std.proofs.lemmas.List.{drop-drop, drop-set-lt, length-drop, take_rest}
use Rattle.sq_devices.proofs.Puts.{take_front}
use Rattle.std.proofs.Common.{Result}
use Rattle.std.proofs.lemmas.List.Concat.{flat_map-append}
use Rattle.std.specs.List.{AllZip}
use Rattle.sq_log.specs.declared.log.Answer.{Answer as Told}
use Rattle.sq_log.specs.declared.log.Log.{Log}
use Rattle.sq_log.specs.declared.log.Step.{Step}
use Rattle.sq_log.specs.declared.log.Step.TheVariants as steps
use Rattle.sq_log.specs.Runs.{told_text}
use Rattle.sq_text.specs.declared.faults.LineFault.{LineFault}
use Rattle.sq_log.specs.Lines.{HasNoFeed, closed, ended_lines, last_part, with_feed}
use Rattle.sq_log.specs.Logs.{HasHeard, IsStep, IsUpToDate}
use Rattle.sq_log.proofs.Cutting.{cuts_ended, cuts_itself, last_part-cut}
use Rattle.sq_track.specs.Held.{Held}
use Rattle.sq_commands.specs.declared.track.Hearing.{Hearing}
use Rattle.sq_commands.specs.declared.answers.HeardSquitter.{HeardSquitter}
use Rattle.sq_commands.specs.Track.{hearing_manner}
use Rattle.sq_commands.specs.Tracking.{track_manner}
use Rattle.sq_commands.specs.TrueAnswers.{true_answers}
use Rattle.squitter_c.specs.declared.log_answer.PlainAnswer.{PlainAnswer}
use Rattle.squitter_c.specs.declared.log_loop.End.{End}
use Rattle.squitter_c.specs.declared.log_loop.End.TheVariants as ends
use Rattle.squitter_c.specs.LogAnswers.{IsPlainAnswer}
use Rattle.squitter_c.specs.LogCalls.{GoesOn, GoesToTheEnd, HasGone, IsEndOf, Written, held_by}

-- ---- a tracker that is borrowed

-- the same borrow of another tracker
abbrev with_tracker : {F A : Type 0} → Hearing F A → Held → Hearing F A
with_tracker hearing tracker = record hearing { tracker = record hearing.tracker { now = tracker } }

to_borrowed : {F A : Type 0} (start : Held) (log : Log (Hearing F A)) (given : List ℕ) (lines : List (List ℕ))
    (answers : List (Told HeardSquitter)) → HasHeard track_manner start (held_by log) given lines answers
    → HasHeard hearing_manner (with_tracker log.job start) log given lines answers
to_borrowed start log given lines answers h = record { kept = h.kept; number = h.number; told = h.told }

to_held : {F A : Type 0} (start : Hearing F A) (log : Log (Hearing F A)) (given : List ℕ) (lines : List (List ℕ))
    (answers : List (Told HeardSquitter)) → HasHeard hearing_manner start log given lines answers
    → HasHeard track_manner start.tracker.now (held_by log) given lines answers
to_held start log given lines answers h = record { kept = h.kept; number = h.number; told = h.told }

-- ---- a step

-- the effect of a step, for every past of the machine
abbrev pub Stepped : {F A : Type 0} → (old : Log (Hearing F A)) → Step HeardSquitter → (piece : List ℕ)
    → (new : Log (Hearing F A)) → Type 0
Stepped {F} {A} old result piece new =
    (start : Hearing F A) (given : List ℕ) (lines : List (List ℕ)) (answers : List (Told HeardSquitter))
    → HasHeard hearing_manner start old given lines answers
    → IsStep hearing_manner start result piece new given lines answers

-- one more result, and its plain form
pub all_with : (answers : List (Told HeardSquitter)) (plain : List PlainAnswer) (answer : Told HeardSquitter)
    (last : PlainAnswer) → AllZip IsPlainAnswer answers plain → IsPlainAnswer answer last
    → AllZip IsPlainAnswer (answers ++ answer ∷ []) (plain ++ last ∷ [])
all_with [] [] answer last h k = (k, tt)
all_with [] (p ∷ plain) answer last h k = absurd h
all_with (a ∷ answers) [] answer last h k = absurd h
all_with (a ∷ answers) (p ∷ plain) answer last h k = (h.0, all_with answers plain answer last h.1 k)

-- the machine has heard this, and its results are written
gone : {X : Type 0} (As : Written X) (start : Held) (end : End) (log : Log Held) (given : List ℕ) (lines more : List
    (List ℕ))
    (answers told now_told : List (Told HeardSquitter)) (written : List X)
    → HasHeard track_manner start log given (lines ++ more) (answers ++ now_told)
    → As (told ++ now_told) written → IsEndOf end log given (lines ++ more)
    → HasGone As start end log given lines answers told written
gone As start end log given lines more answers told now_told written heard written_are ended = record {
  more = more;
  now_told = now_told;
  heard = heard;
  written_are = written_are;
  ended = ended;
  are_true = true_answers start log.job log.tally (lines ++ more) (answers ++ now_told) heard.told;
}

-- no more results
gone_silent : {X : Type 0} (As : Written X) (start : Held) (end : End) (log : Log Held) (given : List ℕ) (lines more :
    List (List ℕ))
    (answers told : List (Told HeardSquitter)) (written : List X)
    → HasHeard track_manner start log given (lines ++ more) answers
    → As told written → IsEndOf end log given (lines ++ more)
    → HasGone As start end log given lines answers told written
gone_silent As start end log given lines more answers told written heard are ended =
    gone As start end log given lines more answers told [] written
    (subst (HasHeard track_manner start log given (lines ++ more)) (sym (append-nil answers)) heard)
    (subst (λ (ts : List (Told HeardSquitter)). As ts written) (sym (append-nil told)) are) ended

-- nothing is done
pub stays : {X : Type 0} (As : Written X) (log : Log Held) (written : List X) → GoesOn As ends.Full log log [] written
    written
stays As log written start given lines answers told h are =
    gone_silent As start ends.Full log (given ++ []) lines [] answers told written
    (subst (λ (g : List ℕ). HasHeard track_manner start log g (lines ++ []) answers) (sym (append-nil given))
    (subst (λ (l : List (List ℕ)). HasHeard track_manner start log given l answers) (sym (append-nil lines)) h))
    are tt

pub on_passed : {X F A : Type 0} (As : Written X) (old new : Log (Hearing F A)) (piece : List ℕ) (taken : ℕ)
    (written : List X) → Stepped old (steps.Passed taken) piece new
    → GoesOn As ends.Full (held_by old) (held_by new) (take taken piece) written written
on_passed As old new piece taken written stepped start given lines answers told h are =
    let borrowed = with_tracker old.job start in
    let (more, heard) = stepped borrowed given lines answers (to_borrowed start old given lines answers h) in
    gone_silent As start ends.Full (held_by new) (given ++ take taken piece) lines more answers told written
    (to_held borrowed new (given ++ take taken piece) (lines ++ more) answers heard) are tt

pub on_answered : {X F A : Type 0} (As : Written X) (old new : Log (Hearing F A)) (piece : List ℕ) (taken : ℕ)
    (answer : Told HeardSquitter) (written after : List X) → Stepped old (steps.Answered taken answer) piece new
    → ((told : List (Told HeardSquitter)) → As told written → As (told ++ answer ∷ []) after)
    → GoesOn As ends.Full (held_by old) (held_by new) (take taken piece) written after
on_answered As old new piece taken answer written after stepped more start given lines answers told h are =
    let borrowed = with_tracker old.job start in
    let (line, heard) = stepped borrowed given lines answers (to_borrowed start old given lines answers h) in
    gone As start ends.Full (held_by new) (given ++ take taken piece) lines (line ∷ []) answers told (answer ∷ [])
    after (to_held borrowed new (given ++ take taken piece) (lines ++ line ∷ []) (answers ++ answer ∷ []) heard)
    (more told are) tt

pub on_fed : {X F A : Type 0} (As : Written X) (old new : Log (Hearing F A)) (piece : List ℕ) (written : List X)
    → Stepped old steps.Fed piece new → GoesOn As ends.Fed (held_by old) (held_by new) [] written written
on_fed As old new piece written stepped start given lines answers told h are =
    let borrowed = with_tracker old.job start in
    let (none, heard, up, all) = stepped borrowed given lines answers (to_borrowed start old given lines answers h) in
    subst (λ (g : List ℕ). HasGone As start ends.Fed (held_by new) g lines answers told written) (sym (append-nil
    given))
    (gone_silent As start ends.Fed (held_by new) given lines [] answers told written
    (subst (λ (l : List (List ℕ)). HasHeard track_manner start (held_by new) given l answers) (sym (append-nil lines))
    (to_held borrowed new given lines answers heard))
    are (up, append-nil lines ∙ all))

pub on_memory : {X F A : Type 0} (As : Written X) (old new : Log (Hearing F A)) (piece : List ℕ) (taken : ℕ)
    (written : List X) → Stepped old (steps.NoMemory taken) piece new
    → GoesOn As ends.NoMemory (held_by old) (held_by new) (take taken piece) written written
on_memory As old new piece taken written stepped start given lines answers told h are =
    let borrowed = with_tracker old.job start in
    let now : List ℕ = given ++ take taken piece in
    let (heard, next) = stepped borrowed given lines answers (to_borrowed start old given lines answers h) in
    gone_silent As start ends.NoMemory (held_by new) now lines [] answers told written
    (subst (λ (l : List (List ℕ)). HasHeard track_manner start (held_by new) now l answers) (sym (append-nil lines))
    (to_held borrowed new now lines answers heard))
    are (subst (IsEndOf ends.NoMemory (held_by new) now) (sym (append-nil lines)) next)

-- ---- in order

pub on : {X : Type 0} (As : Written X) (end : End) (one two three : Log Held) (xs ys : List ℕ) (before between after :
    List X)
    → GoesOn As ends.Full one two xs before between → GoesOn As end two three ys between after
    → GoesOn As end one three (xs ++ ys) before after
on As end one two three xs ys before between after first later start given lines answers told h are =
    let p = first start given lines answers told h are in
    let q = later start (given ++ xs) (lines ++ p.more) (answers ++ p.now_told) (told ++ p.now_told) p.heard
    p.written_are in
    let given_is = append_assoc given xs ys in
    let lines_is = append_assoc lines p.more q.more in
    let answers_is = append_assoc answers p.now_told q.now_told in
    let now : List ℕ = given ++ (xs ++ ys) in
    let heard : HasHeard track_manner start three now (lines ++ (p.more ++ q.more))
    (answers ++ (p.now_told ++ q.now_told)) =
    subst (HasHeard track_manner start three now (lines ++ (p.more ++ q.more))) answers_is
    (subst (λ (l : List (List ℕ)). HasHeard track_manner start three now l
    ((answers ++ p.now_told) ++ q.now_told)) lines_is
    (subst (λ (g : List ℕ). HasHeard track_manner start three g ((lines ++ p.more) ++ q.more)
    ((answers ++ p.now_told) ++ q.now_told)) given_is q.heard)) in
    gone As start end three now lines (p.more ++ q.more) answers told (p.now_told ++ q.now_told) after heard
    (subst (λ (ts : List (Told HeardSquitter)). As ts after)
    (append_assoc told p.now_told q.now_told) q.written_are)
    (subst (λ (g : List ℕ). IsEndOf end three g (lines ++ (p.more ++ q.more))) given_is
    (subst (λ (l : List (List ℕ)). IsEndOf end three ((given ++ xs) ++ ys) l) lines_is q.ended))

-- ---- a piece from an index on

-- the bytes taken are within the rest of the piece
pub within_rest : (piece : List ℕ) (at n : ℕ) → n ≤ length (take (length piece - at) (drop at piece))
    → n ≤ length piece - at
within_rest piece at n h =
    subst (λ (k : ℕ). n ≤ k) (length-drop at piece) (subst (λ (xs : List ℕ). n ≤ length xs) (take_rest piece at) h)

-- if nothing is left, all was taken
pub all_taken : (piece : List ℕ) (at : ℕ) → at ≤ length piece
    → length (take (length piece - at) (drop at piece)) ≡ 0 → at ≡ length piece
all_taken piece at fits none =
    let short : length piece - at ≡ 0 =
    sym (length-drop at piece) ∙ ap length (sym (take_rest piece at)) ∙ none in
    omega (arith, fits, short)

-- the bytes so far, and those of the next step
pub goes_further : {X : Type 0} (As : Written X) (end : End) (one two three : Log Held) (piece : List ℕ) (at n : ℕ)
    (before between after : List X) → n ≤ length piece - at
    → GoesOn As ends.Full one two (take at piece) before between
    → GoesOn As end two three (take n (take (length piece - at) (drop at piece))) between after
    → GoesOn As end one three (take (at + n) piece) before after
goes_further As end one two three piece at n before between after fits first later =
    subst (λ (xs : List ℕ). GoesOn As end one three xs before after) (take_front piece at n fits)
    (on As end one two three (take at piece) (take n (take (length piece - at) (drop at piece))) before between after
    first later)

-- no more bytes
pub goes_no_further : {X : Type 0} (As : Written X) (end : End) (one two three : Log Held) (xs : List ℕ)
    (before between after : List X) → GoesOn As ends.Full one two xs before between
    → GoesOn As end two three [] between after → GoesOn As end one three xs before after
goes_no_further As end one two three xs before between after first later =
    subst (λ (ys : List ℕ). GoesOn As end one three ys before after) (append-nil xs)
    (on As end one two three xs [] before between after first later)

-- elements after an index that is written stay unchanged
pub dropped_further : {X : Type 0} (xs ys : List X) (place : ℕ) (x : X) → drop place xs ≡ drop place ys
    → drop (place + 1) (set xs place x) ≡ drop (place + 1) ys
dropped_further xs ys place x same =
    drop-set-lt (place + 1) xs place x (omega arith)
    ∙ sym (drop-drop 1 place xs) ∙ ap (drop 1) same ∙ drop-drop 1 place ys

-- ---- the end of a log

no_feed : HasNoFeed []
no_feed = λ k d past. absurd (omega (arith, past))

-- the last part is empty after a line feed
closed_part : (given : List ℕ) → last_part (with_feed given) ≡ []
closed_part given =
    let cut = cuts_itself given in
    last_part-cut (with_feed given) _ [] (cuts_ended given (ended_lines given) (last_part given) [] cut no_feed)

closed_once : (given : List ℕ) (empty : Bool) → (length (last_part given) == 0) ≡ empty
    → closed (if empty then given else with_feed given) ≡ (if empty then given else with_feed given)
closed_once given true is = rw is refl
closed_once given false is = rw (closed_part given) refl

-- closing twice is closing once
pub closed_stays : (given : List ℕ) → closed (closed given) ≡ closed given
closed_stays given = closed_once given (length (last_part given) == 0) refl

-- the machine has ended the log
abbrev pub HasEnded : (old new : Log Held) → Type 0
HasEnded old new = (start : Held) (given : List ℕ) (lines : List (List ℕ)) (answers : List (Told HeardSquitter))
    → HasHeard track_manner start old given lines answers → IsUpToDate old
    → HasHeard track_manner start new (closed given) lines answers

pub has_ended : {F A : Type 0} (old new : Log (Hearing F A))
    → ((start : Hearing F A) (given : List ℕ) (lines : List (List ℕ)) (answers : List (Told HeardSquitter))
    → HasHeard hearing_manner start old given lines answers → IsUpToDate old
    → HasHeard hearing_manner start new (closed given) lines answers)
    → HasEnded (held_by old) (held_by new)
has_ended old new ended start given lines answers h up =
    let borrowed = with_tracker old.job start in
    to_held borrowed new (closed given) lines answers
    (ended borrowed given lines answers (to_borrowed start old given lines answers h) up)

-- all that was given has results, and then the last line has one
pub goes_to_the_end : {X : Type 0} (As : Written X) (end : End) (one two three four : Log Held) (between after : List X)
    → GoesOn As ends.Fed one two [] [] between → HasEnded two three → GoesOn As end three four [] between after
    → GoesToTheEnd As end one four [] after
goes_to_the_end As end one two three four between after first ended later start given lines answers told h are =
    let p = first start given lines answers told h are in
    let same = append-nil given in
    let all = append-nil (closed given) in
    let two_heard = subst (λ (g : List ℕ). HasHeard track_manner start two g (lines ++ p.more) (answers ++ p.now_told))
    same p.heard in
    let three_heard = ended start given (lines ++ p.more) (answers ++ p.now_told) two_heard p.ended.0 in
    let q = later start (closed given) (lines ++ p.more) (answers ++ p.now_told) (told ++ p.now_told) three_heard
    p.written_are in
    let lines_are = append_assoc lines p.more q.more in
    let answers_are = append_assoc answers p.now_told q.now_told in
    let more : List (List ℕ) = p.more ++ q.more in
    let now_told : List (Told HeardSquitter) = p.now_told ++ q.now_told in (
      closed given,
      closed_stays given,
      (λ fed. refl),
      gone As start end four (closed given) lines more answers told now_told after
          (subst (HasHeard track_manner start four (closed given) (lines ++ more)) answers_are
          (subst (λ (l : List (List ℕ)). HasHeard track_manner start four (closed given) l
          ((answers ++ p.now_told) ++ q.now_told)) lines_are
          (subst (λ (g : List ℕ). HasHeard track_manner start four g ((lines ++ p.more) ++ q.more)
          ((answers ++ p.now_told) ++ q.now_told)) all q.heard)))
          (subst (λ (ts : List (Told HeardSquitter)). As ts after)
          (append_assoc told p.now_told q.now_told) q.written_are)
          (subst (λ (g : List ℕ). IsEndOf end four g (lines ++ more)) all
          (subst (IsEndOf end four (closed given ++ [])) lines_are q.ended)),
    )

-- the call stops before the end
pub stops_before : {X : Type 0} (As : Written X) (end : End) (one two : Log Held) (after : List X) → end ≢ ends.Fed
    → GoesOn As end one two [] [] after → GoesToTheEnd As end one two [] after
stops_before As end one two after before first start given lines answers told h are =
    let same = append-nil given in (
      given,
      refl,
      (λ fed. absurd (before fed)),
      subst (λ (g : List ℕ). HasGone As start end two g lines answers told after) same
          (first start given lines answers told h are),
    )

-- the front of no bytes is empty
take_none : (n : ℕ) → take {A = ℕ} n [] ≡ []
take_none zero = refl
take_none (suc n) = refl

pub goes_on_nothing : {X : Type 0} (As : Written X) (end : End) (one two : Log Held) (n : ℕ) (before after : List X)
    → GoesOn As end one two (take n []) before after → GoesOn As end one two [] before after
goes_on_nothing As end one two n before after goes =
    subst (λ (xs : List ℕ). GoesOn As end one two xs before after) (take_none n) goes

-- if elements are unchanged from an index on, they are from a later index on
pub rest_further : {X : Type 0} (xs ys : List X) (near far : ℕ) → near ≤ far → drop near xs ≡ drop near ys
    → drop far xs ≡ drop far ys
rest_further xs ys near far fits same =
    let split : near + (far - near) ≡ far = omega (arith, fits) in
    subst (λ (k : ℕ). drop k xs ≡ drop k ys) split
    (sym (drop-drop (far - near) near xs) ∙ ap (drop (far - near)) same ∙ drop-drop (far - near) near ys)

-- the text of one more result
pub told_more : (text : ℕ → Result HeardSquitter LineFault → List ℕ) (answers : List (Told HeardSquitter))
    (answer : Told HeardSquitter)
    → told_text text (answers ++ answer ∷ []) ≡ told_text text answers ++ text answer.number answer.verdict
told_more text answers answer =
    flat_map-append (λ a. text a.number a.verdict) answers (answer ∷ [])
    ∙ ap (λ (more : List ℕ). told_text text answers ++ more) (append-nil (text answer.number answer.verdict))
