-- What a machine has told after one more line.
use Rattle.std.proofs.Common.{◌≡◌, ◌+◌, ◌++◌, ◌∙◌, ℕ, List, [], ◌∷◌, None, Some, length, ap, sym, subst, arith, refl}
use Rattle.std.proofs.Common.{◌<◌, append-nil, Err, Ok, OnOk, Result, drop, inl, subst₂, take}
use Rattle.std.proofs.lemmas.List.{length_push}
use Rattle.sq_devices.specs.Device.{IsPrefixOf}
use Rattle.sq_log.specs.Answers.{Answerer, Manner, WantsAt, after_content, after_line, answer_line, answers_to, noted}
use Rattle.sq_log.specs.Answers.{past_after, tally_of}
use Rattle.sq_log.specs.Content.{Answer, Content, answer_content}
use Rattle.sq_log.specs.Rests.{IsHeldAs, KeepsRest}
use Rattle.sq_log.specs.Lines.{HasNoFeed, ended_lines, with_next}
use Rattle.sq_log.specs.Logs.{AreAnswers, HasHeard, IsUpToDate, told_from}
use Rattle.sq_log.specs.Windows.{IsFeedPlace, Rest, next_line}
use Rattle.sq_log.specs.declared.log.Answer.{Answer as Told}
use Rattle.sq_log.specs.declared.log.Log.{Log}
use Rattle.sq_log.specs.declared.log.Tally.{Tally}
use Rattle.sq_log.proofs.Cutting.{cuts_nothing}
use Rattle.sq_log.proofs.Fronts.{same_content}
use Rattle.sq_log.proofs.Windows.{line_passed, passed_all, passed_first}
use Rattle.sq_log.proofs.Tallying.{answers_append, length_answers, past_push, tally_nothing, tally_push}

-- ---- one more answer

told_push : {Found : Type 0} (n : ℕ) (answers : List (Answer Found)) (answer : Answer Found)
    → told_from n (answers ++ answer ∷ []) ≡ told_from n answers ++ told_from (n + length answers) (answer ∷ [])
told_push n [] answer = let e : n ≡ n + 0 = omega arith in ap (λ (k : ℕ). told_from k (answer ∷ [])) e
told_push {Found} n (None ∷ answers) answer =
    let all : List (Answer Found) = None ∷ answers in
    let e : (n + 1) + length answers ≡ n + length all = omega arith in
    told_push (n + 1) answers answer
    ∙ ap (λ (k : ℕ). told_from (n + 1) answers ++ told_from k (answer ∷ [])) e
told_push {Found} n (Some verdict ∷ answers) answer =
    let all : List (Answer Found) = Some verdict ∷ answers in
    let e : (n + 1) + length answers ≡ n + length all = omega arith in
    let one : Told Found = record { number = n; verdict = verdict } in
    ap (λ l. one ∷ l) (told_push (n + 1) answers answer
    ∙ ap (λ (k : ℕ). told_from (n + 1) answers ++ told_from k (answer ∷ [])) e)

told_line : {Past Found : Type 0} (way : Answerer Past Found) (past : Past) (lines : List (List ℕ)) (line : List ℕ)
    → told_from 1 (answers_to way past (lines ++ line ∷ [])) ≡ told_from 1 (answers_to way past lines)
    ++ told_from (length lines + 1) (answer_line way (past_after way past lines) line ∷ [])
told_line way past lines line =
    let first = answers_to way past lines in
    let e : 1 + length first ≡ length lines + 1 = omega (arith, length_answers way past lines) in
    ap (told_from 1) (answers_append way past lines (line ∷ []))
    ∙ told_push 1 first (answer_line way (past_after way past lines) line)
    ∙ ap (λ (k : ℕ). told_from 1 first
    ++ told_from k (answer_line way (past_after way past lines) line ∷ [])) e

-- the line was answered so, from each past that the state stood for
abbrev pub IsAnsweredSo : {State Past Found : Type 0} → Manner State Past Found → Answer Found → (line : List ℕ)
    → (old new : State) → Type 0
IsAnsweredSo {Past = Past} how answer line old new = (past : Past) → how.stands_for old past
    → (answer_line how.way past line ≡ answer) × how.stands_for new (after_line how.way past line)

module _ {State Past Found : Type 0} (how : Manner State Past Found) (start : State) where
  -- bytes that stand for the line
  alike : (answer : Answer Found) (bytes line : List ℕ) (old new : State) → IsHeldAs bytes line
      → IsAnsweredSo how answer bytes old new → IsAnsweredSo how answer line old new
  alike answer bytes line old new held heard past st =
      subst (λ (stands : Content). (answer_content (how.way.answer past) stands ≡ answer)
      × how.stands_for new (after_content (how.way.after past) past stands))
      (same_content bytes line held) (heard past st)

  pub told_more : (answer : Answer Found) (bytes line : List ℕ) (old new : State) (tally next : Tally)
      (lines : List (List ℕ)) (answers more : List (Told Found)) → IsHeldAs bytes line
      → IsAnsweredSo how answer bytes old new → next ≡ noted tally answer
      → more ≡ told_from (length lines + 1) (answer ∷ []) → AreAnswers how start old tally lines answers
      → AreAnswers how start new next (lines ++ line ∷ []) (answers ++ more)
  told_more answer bytes line old new tally next lines answers more held heard counted is told past st =
      let before = told past st in
      let one = alike answer bytes line old new held heard (past_after how.way past lines) before.0 in (
        subst (how.stands_for new) (sym (past_push how.way past lines line)) one.1,
        ap (λ l. l ++ more) before.1
            ∙ ap (λ l. told_from 1 (answers_to how.way past lines) ++ l)
            (is ∙ ap (λ a. told_from (length lines + 1) (a ∷ [])) (sym one.0))
            ∙ sym (told_line how.way past lines line),
        counted ∙ ap (λ t. noted t answer) before.2
            ∙ ap (noted (tally_of (answers_to how.way past lines))) (sym one.0)
            ∙ sym (tally_push how.way past lines line),
      )

  pub told_none : (job : State) (tally : Tally) → start ≡ job
      → (let none : Tally = record { good = 0; refused = 0 } in tally ≡ none)
      → AreAnswers how start job tally [] []
  told_none job tally same none past st = (
    subst (λ (s : State). how.stands_for s past) same st,
    refl,
    none ∙ sym (tally_nothing how.way past),
  )

pub keeps_nothing : (line waiting : List ℕ) → line ≡ [] → waiting ≡ [] → KeepsRest line waiting [] []
keeps_nothing line waiting front none = record {
  read = [];
  rest = [];
  whole = sym none;
  cut = cuts_nothing;
  held = inl front;
}

pub on_ok : {X E : Type 0} {P Q : Type 0} (result : Result X E) → (P → Q) → OnOk result P → OnOk result Q
on_ok (Ok x) turn of = turn of
on_ok (Err e) turn of = tt

-- ---- steps

module _ {State Past Found : Type 0} (how : Manner State Past Found) (start : State) (old : Log State)
    (given : List ℕ) (lines : List (List ℕ)) (answers : List (Told Found))
    (h : HasHeard how start old given lines answers) where
  -- more was given, and no line was heard
  pub heard_more : (new : Log State) (now : List ℕ) → new.job ≡ old.job → new.number ≡ old.number
      → new.tally ≡ old.tally → KeepsRest new.window.line new.window.waiting now lines
      → HasHeard how start new now lines answers
  heard_more new now same number counted kept = record {
    kept = kept;
    number = number ∙ h.number;
    told = subst₂ (λ (s : State) (t : Tally). AreAnswers how start s t lines answers) (sym same) (sym counted) h.told;
  }

  pub heard_none : (new : Log State) (now : List ℕ) → new.job ≡ old.job → new.number ≡ old.number
      → new.tally ≡ old.tally → KeepsRest new.window.line new.window.waiting now lines
      → HasHeard how start new now (lines ++ []) answers
  heard_none new now same number counted kept =
      subst (λ (ls : List (List ℕ)). HasHeard how start new now ls answers) (sym (append-nil lines))
      (heard_more new now same number counted kept)

  -- all that was given is heard, as far as line feeds end it
  pub heard_all : (new : Log State) (piece : List ℕ) (taken : ℕ) → new.job ≡ old.job → new.number ≡ old.number
      → new.tally ≡ old.tally → KeepsRest new.window.line new.window.waiting (given ++ take taken piece) lines
      → taken ≡ 0 → HasNoFeed new.window.waiting → piece ≡ []
      → (piece ≡ []) × HasHeard how start new given lines answers × IsUpToDate new × (lines ≡ ended_lines given)
  heard_all new piece taken same number counted kept none feeds nothing =
      let all : given ++ take taken piece ≡ given = ap (λ n. given ++ take n piece) none ∙ append-nil given in
      let keeps = subst (λ (l : List ℕ). KeepsRest new.window.line new.window.waiting l lines) all kept in (
        nothing,
        heard_more new given same number counted keeps,
        feeds,
        passed_all new.window.line new.window.waiting given lines keeps feeds,
      )

  module _ (rest : Rest) (now : List ℕ) (keeps : KeepsRest rest.line rest.waiting now lines) (place : ℕ)
      (feed : IsFeedPlace rest.waiting place) where
    passed : (next : List ℕ) → next ≡ drop (place + 1) rest.waiting
        → (whole : List ℕ) × KeepsRest [] next now (lines ++ whole ∷ []) × IsHeldAs (next_line rest) whole
    passed next is =
        line_passed rest.line rest.waiting next now lines keeps
        (subst (λ n. n < length rest.waiting) feed.first feed.there)
        (is ∙ ap (λ n. drop (n + 1) rest.waiting) feed.first)

    -- the next line was heard
    pub heard_line : (new : Log State) (answer : Answer Found) (more : List (Told Found)) → new.window.line ≡ []
        → new.window.waiting ≡ drop (place + 1) rest.waiting → new.number ≡ old.number + 1
        → new.tally ≡ noted old.tally answer → IsAnsweredSo how answer (next_line rest) old.job new.job
        → ((number : ℕ) → number ≡ old.number + 1 → more ≡ told_from number (answer ∷ []))
        → (whole : List ℕ) × HasHeard how start new now (lines ++ whole ∷ []) (answers ++ more)
    heard_line new answer more begun behind number counted heard told =
        let one = passed new.window.waiting behind in (
          one.0,
          record {
            kept = subst (λ (l : List ℕ). KeepsRest l new.window.waiting now (lines ++ one.0 ∷ [])) (sym begun) one.1;
            number = number ∙ ap (λ n. n + 1) h.number ∙ sym (length_push lines one.0);
            told = told_more how start answer (next_line rest) one.0 old.job new.job old.tally new.tally lines answers
                more one.2 heard counted (told (length lines + 1) (ap (λ n. n + 1) (sym h.number))) h.told;
          },
        )

    -- for the next line there was no memory
    pub heard_before : (new : Log State) → new.window ≡ rest → new.number ≡ old.number → new.tally ≡ old.tally
        → (new.job ≡ old.job) × WantsAt how old.job (next_line rest)
        → HasHeard how start new now lines answers
        × ((next : List ℕ) × IsPrefixOf (with_next lines next) (ended_lines now) × WantsAt how new.job next)
    heard_before new held number counted wants =
        let one = passed (drop (place + 1) rest.waiting) refl in (
          heard_more new now wants.0 number counted
              (subst (λ (r : Rest). KeepsRest r.line r.waiting now lines) (sym held) keeps),
          (
            one.0,
            passed_first [] (drop (place + 1) rest.waiting) now (lines ++ one.0 ∷ []) one.1,
            subst (λ (s : State). WantsAt how s one.0) (sym wants.0)
                (wants.1.0, sym (same_content (next_line rest) one.0 one.2) ∙ wants.1.1, wants.1.2),
          ),
        )
