-- What a run has come to after one more step.
use Rattle.std.proofs.Common.{◌≡◌, ◌+◌, ◌≤◌, ◌++◌, ◌∙◌, ℕ, List, [], ◌∷◌, None, Some, Option, Result, Ok, Err, length}
use Rattle.std.proofs.Common.{Bool, true, false, inl, inr}
use Rattle.std.proofs.Common.{◌-◌, take, ap, sym, subst, arith, refl, append_assoc, append-nil}
use Rattle.std.specs.List.{enumerate_from, flat_map}
use Rattle.std.specs.Io.KnownBytes.{Appends, IsAtEnd, Keeps}
use Rattle.std.proofs.KnownBytes.{Appends-kept}
use Rattle.std.proofs.lemmas.List.Concat.{flat_map-append}
use Rattle.sq_devices.specs.Calls.{HasPut}
use Rattle.sq_devices.specs.Changes.{Taken, TookReported, Written, written_on}
use Rattle.sq_devices.proofs.Ends.{took_reported}
use Rattle.sq_devices.specs.Device.{AppendsOrHides, IsPrefixOf, KeepsOrHides, WroteFront}
use Rattle.sq_devices.specs.declared.device.Sink.{Ghosts as SinkGhosts}
use Rattle.sq_devices.proofs.Puts.{Appends-hidden, HasPut-trans}
use Rattle.sq_text.specs.declared.faults.LineFault.{LineFault}
use Rattle.sq_log.specs.Answers.{Manner, answer_text, answers_to, tally_of, texts_of}
use Rattle.sq_log.specs.Content.{Answer}
use Rattle.sq_log.specs.Lines.{HasNoFeed, ended_lines, lines_of}
use Rattle.sq_log.specs.Logs.{AreAnswers, HasHeard, told_from}
use Rattle.sq_log.specs.Runs.{AreAnswered, HasRun, HasTold, HasToldBy, IsPumped, OfLines, Texts, WroteIntoLast}
use Rattle.sq_log.specs.Runs.{fed, told_in, told_text}
use Rattle.sq_log.specs.declared.run.RunFault.{RunFault}
use Rattle.sq_log.specs.declared.run.RunFault.TheVariants.{Read, Write, Memory}
use Rattle.sq_log.specs.declared.log.Answer.{Answer as Told}
use Rattle.sq_log.specs.declared.log.Log.{Log}
use Rattle.sq_log.specs.declared.log.Tally.{Tally}
use Rattle.sq_log.proofs.Tallying.{answers_but_last, texts_none, texts_prefix}
use Rattle.sq_log.proofs.Windows.{ended_lines-closed}

-- ---- fronts

pub AppendsOrHides-after : (a b c : Option (List ℕ)) (bs cs : List ℕ) → Appends a b bs → AppendsOrHides b c cs
    → AppendsOrHides a c (bs ++ cs)
AppendsOrHides-after None b c bs cs p q = tt
AppendsOrHides-after (Some x) None c bs cs p q = absurd p
AppendsOrHides-after (Some x) (Some y) None bs cs p q = tt
AppendsOrHides-after (Some x) (Some y) (Some z) bs cs p q = q ∙ ap (λ l. l ++ cs) p ∙ append_assoc x bs cs

-- a longer text begins as the shorter one, behind a header too
pub prefix_behind : (header xs ys : List ℕ) → IsPrefixOf xs ys → IsPrefixOf (header ++ xs) (header ++ ys)
prefix_behind header xs ys first = (first.0, ap (λ l. header ++ l) first.1 ∙ sym (append_assoc header xs first.0))

-- ---- texts

texts_from : {Found : Type 0} (text : ℕ → Result Found LineFault → List ℕ) (n : ℕ) (answers : List (Answer Found))
    → told_text text (told_from n answers)
    ≡ flat_map (λ entry. answer_text text entry.0 entry.1) (enumerate_from n answers)
texts_from text n [] = refl
texts_from text n (None ∷ answers) = texts_from text (n + 1) answers
texts_from text n (Some verdict ∷ answers) = ap (λ l. text n verdict ++ l) (texts_from text (n + 1) answers)

-- answers with their numbers have the texts of the answers
told_texts : {Found : Type 0} (text : ℕ → Result Found LineFault → List ℕ) (answers : List (Answer Found))
    → told_text text (told_from 1 answers) ≡ texts_of text answers
unfolding texts_of
told_texts text answers = texts_from text 1 answers

text_push : {Found : Type 0} (text : ℕ → Result Found LineFault → List ℕ) (answers : List (Told Found))
    (answer : Told Found)
    → told_text text (answers ++ answer ∷ []) ≡ told_text text answers ++ text answer.number answer.verdict
text_push text answers answer =
    flat_map-append (λ a. text a.number a.verdict) answers (answer ∷ [])
    ∙ ap (λ l. told_text text answers ++ l) (append-nil (text answer.number answer.verdict))

-- ---- what was given

-- what holds of the lines of what was fed
pub of_fed : (input : Taken) (ended : Bool) (read : List ℕ) (Of : List (List ℕ) → Type 0)
    → (ended ≡ true → IsAtEnd input.after) → Of (ended_lines (fed ended read)) → OfLines input Of read
of_fed input true read Of at_end of = inr (at_end refl, subst Of (ended_lines-closed read) of)
of_fed input false read Of at_end of = inl of

-- an empty text has no line feed
pub no_feeds : (bytes : List ℕ) → length bytes ≡ 0 → HasNoFeed bytes
no_feeds bytes none k d within = absurd (omega (arith, none, within))

-- an empty piece gives nothing
pub nothing_given : (given : List ℕ) (taken : ℕ) → taken ≤ 0 → given ++ take taken [] ≡ given
nothing_given given taken none =
    let is : taken ≡ 0 = omega (arith, none) in
    ap (λ (n : ℕ). given ++ take n []) is ∙ append-nil given

pub fed_not : (ended : Bool) (read : List ℕ) → ended ≡ false → fed ended read ≡ read
fed_not ended read not_yet = ap (λ e. fed e read) not_yet

pub no_more : (read piece all : List ℕ) → read ≡ all → length piece ≡ 0 → read ++ piece ≡ all
no_more read [] all same none = append-nil read ∙ same
no_more read (b ∷ bs) all same none = absurd (omega (arith, none))

-- ---- steps

module _ {State Past Found Writing : Type 0} (how : Manner State Past Found) (text : Texts Writing Found)
    (start : State) {K : Type 0} (k : SinkGhosts K) (first : K) where
  pub pumped_passed : (sink : K) (old new : Log State) (given next : List ℕ)
      (h : IsPumped how text start k first sink old given)
      → (more : List (List ℕ)) × HasHeard how start new next (h.lines ++ more) h.answers
      → IsPumped how text start k first sink new next
  pumped_passed sink old new given next h on = record {
    lines = h.lines ++ on.0;
    answers = h.answers;
    heard = on.1;
    put = h.put;
  }

  pub pumped_answered : (a b : K) (old new : Log State) (given next : List ℕ) (answer : Told Found)
      (h : IsPumped how text start k first a old given)
      → (line : List ℕ) × HasHeard how start new next (h.lines ++ line ∷ []) (h.answers ++ answer ∷ [])
      → ((writing : Writing) → HasPut k a b (text writing answer.number answer.verdict))
      → IsPumped how text start k first b new next
  pumped_answered a b old new given next answer h on put = record {
    lines = h.lines ++ on.0 ∷ [];
    answers = h.answers ++ answer ∷ [];
    heard = on.1;
    put = λ writing. subst (HasPut k first b) (sym (text_push (text writing) h.answers answer))
        (HasPut-trans k first a b _ _ (h.put writing) (put writing));
  }

  -- ---- behind a header

  module _ (header : List ℕ) (before : K) (headed : HasPut k before first header) where
    -- the header and the texts of these answers were put
    abbrev pub Behind : K → Writing → List (Answer Found) → Type 0
    Behind sink writing answers = HasPut k before sink (told_in header text writing answers)

    -- the same, and they were counted
    abbrev pub Counted : K → Tally → Writing → List (Answer Found) → Type 0
    Counted sink tally writing answers = Behind sink writing answers × (tally ≡ tally_of answers)

    -- answers were told and counted, and their texts put
    pub told_behind : (sink : K) (now : State) (tally : Tally) (lines : List (List ℕ)) (answers : List (Told Found))
        → ((writing : Writing) → HasPut k first sink (told_text (text writing) answers))
        → AreAnswers how start now tally lines answers → HasTold how start now (Counted sink tally) lines
    told_behind sink now tally lines answers put told past writing st =
        let one = told past st in
        let words = text writing in
        let same : told_text words answers ≡ texts_of words (answers_to how.way past lines) =
        ap (told_text words) one.1 ∙ told_texts words (answers_to how.way past lines) in
        let put_all = HasPut-trans k before first sink header (told_text words answers) headed (put writing) in
        (one.0, (subst (λ all. HasPut k before sink (header ++ all)) same put_all, one.2))

    -- the run ended there: the texts were written
    pub told_wrote : (sink : K) (now : State) (tally : Tally) (lines : List (List ℕ))
        → HasTold how start now (Counted sink tally) lines
        → HasToldBy header text how start now (Err Read) (written_on k before sink) lines
    told_wrote sink now tally lines told past writing st =
        let one = told past writing st in (one.0, one.1.0.0)

    -- the sink was finished behind the texts
    pub told_sent : (a b : K) (now : State) (tally : Tally) (lines : List (List ℕ)) → Keeps (k.written a) (k.written b)
        → k.Finished a b → HasTold how start now (Counted a tally) lines
        → HasToldBy header text how start now (Ok tally) (written_on k before b) lines
    told_sent a b now tally lines keeps finished told past writing st =
        let one = told past writing st in
        let all : List ℕ = told_in header text writing (answers_to how.way past lines) in (
          one.0,
          (
            (Appends-kept (k.written before) (k.written a) (k.written b) all one.1.0.0 keeps, (a, one.1.0, finished)),
            one.1.1,
          ),
        )

    -- the answer was not put, or in part
    pub told_part : (a b : K) (old new : Log State) (given next : List ℕ) (answer : Told Found)
        (h : IsPumped how text start k first a old given)
        (on : (line : List ℕ) × HasHeard how start new next (h.lines ++ line ∷ []) (h.answers ++ answer ∷ []))
        → ((writing : Writing) → WroteFront (k.written a) (k.written b) (text writing answer.number answer.verdict))
        → HasTold how start new.job (λ writing. WroteIntoLast (written_on k before b) (told_in header text writing))
        (h.lines ++ on.0 ∷ [])
    told_part a b old new given next answer h on part past writing st =
        let words = text writing in
        let one : List ℕ = words answer.number answer.verdict in
        let told = h.heard.told past st in
        let after = on.1.told past st in
        let front = part writing in
        let done : List ℕ = told_text words h.answers in
        let answers : List (Answer Found) = answers_to how.way past (h.lines ++ on.0 ∷ []) in
        let done_is : texts_of words (take (length answers - 1) answers) ≡ done =
        ap (texts_of words) (answers_but_last how.way past h.lines on.0)
        ∙ sym (told_texts words (answers_to how.way past h.lines)) ∙ sym (ap (told_text words) told.1) in
        let all_is : texts_of words answers ≡ done ++ one =
        sym (told_texts words answers) ∙ sym (ap (told_text words) after.1) ∙ text_push words h.answers answer in
        let put = HasPut-trans k before first a header done headed (h.put writing) in (
          after.0,
          (
            (header ++ done) ++ front.0,
            λ some. (front.0, ap (λ l. (header ++ l) ++ front.0) (sym done_is)),
            (
              front.1.0,
              ap (λ l. header ++ l) all_is ∙ sym (append_assoc header done one)
                  ∙ ap (λ l. (header ++ done) ++ l) front.1.1
                  ∙ sym (append_assoc (header ++ done) front.0 front.1.0),
            ),
            AppendsOrHides-after (k.written before) (k.written a) (k.written b) (header ++ done) front.0 put.0 front.2,
          ),
        )

    -- all was put, and then the sink failed
    pub told_unfinished : (a b : K) (now : State) (tally : Tally) (lines : List (List ℕ))
        → KeepsOrHides (k.written a) (k.written b) → HasTold how start now (Counted a tally) lines
        → HasTold how start now (λ writing. WroteIntoLast (written_on k before b) (told_in header text writing)) lines
    told_unfinished a b now tally lines kept told past writing st =
        let one = told past writing st in
        let words = text writing in
        let answers : List (Answer Found) = answers_to how.way past lines in
        let all : List ℕ = header ++ texts_of words answers in (
          one.0,
          (
            all,
            λ some. prefix_behind header (texts_of words (take (length answers - 1) answers)) (texts_of words answers)
                (texts_prefix words (length answers - 1) answers),
            ([], sym (append-nil all)),
            Appends-hidden (k.written before) (k.written a) (k.written b) all one.1.0.0 kept,
          ),
        )

-- the header was not put, or in part
pub told_header : {State Past Found Writing : Type 0} (how : Manner State Past Found) (text : Texts Writing Found)
    (start : State) (header : List ℕ) (output : Written) → WroteFront output.before output.after header
    → HasTold how start start (λ writing. WroteIntoLast output (told_in header text writing)) []
told_header how text start header output front past writing st = (
  st,
  (
    front.0,
    λ some. absurd (omega (arith, some)),
    (
      front.1.0,
      ap (λ l. header ++ l) (texts_none (text writing)) ∙ append-nil header ∙ front.1.1,
    ),
    front.2,
  ),
)

-- ---- the result of a run

-- answered lines, where the wants of a line are said in other words
answered_as : (Wants Then : List ℕ → Type 0) → ((line : List ℕ) → Wants line → Then line)
    → (result : Result Tally RunFault) (input : Taken) (lines : List (List ℕ)) → AreAnswered Wants result input lines
    → AreAnswered Then result input lines
answered_as Wants Then turn (Ok tally) input lines is = is
answered_as Wants Then turn (Err Read) input lines is = is
answered_as Wants Then turn (Err Write) input lines is = is
answered_as Wants Then turn (Err Memory) input lines (read, consumed, few, is) = (
  read,
  consumed,
  few,
  elim is [
    | inl ended ↦ inl (ended.0, ended.1, turn ended.0 ended.2)
    | inr last ↦ inr (last.0, (last.1.0, last.1.1, turn last.1.0 last.1.2))
  ],
)

-- the result of a run, said in other words
pub run_as : (Wants Then : List ℕ → Type 0) (Answered Says : List (List ℕ) → Type 0)
    → ((line : List ℕ) → Wants line → Then line) → ((lines : List (List ℕ)) → Answered lines → Says lines)
    → (result : Result Tally RunFault) (input : Taken) (output : Written)
    → HasRun Wants Answered result input output → HasRun Then Says result input output
run_as Wants Then Answered Says wants says result input output (closed_by, (lines, answered, is)) =
    (closed_by, (lines, answered_as Wants Then wants result input lines answered, says lines is))

-- if the source reports its bytes, all lines of these were answered
pub run_reported : (Wants : List ℕ → Type 0) (Answered : List (List ℕ) → Type 0) (tally : Tally) (input : Taken)
    (output : Written) → HasRun Wants Answered (Ok tally) input output
    → TookReported input (λ read. Answered (lines_of read))
run_reported Wants Answered tally input output (closed_by, (lines, (pieces, got, consumed, end, all), is)) =
    took_reported input (λ read. Answered (lines_of read)) (pieces, got, consumed, end, subst Answered all is)
