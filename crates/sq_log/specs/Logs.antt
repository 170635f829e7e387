-- The answers of a log machine, by the bytes that it was given.
use Rattle.std.specs.Prelude.{◌≡◌, ◌+◌, ◌<◌, ◌*◌, ◌≤◌, ◌++◌, ⊤, ℕ, List, [], ◌∷◌, None, Some, length, take}
use Rattle.sq_devices.specs.Device.{IsPrefixOf}
use Rattle.sq_log.specs.Answers.{Manner, WantsAt, answers_to, past_after, tally_of}
use Rattle.sq_log.specs.Content.{Answer}
use Rattle.sq_log.specs.Lines.{HasNoFeed, ended_lines, with_next}
use Rattle.sq_log.specs.Rests.{KeepsRest}
use Rattle.sq_log.specs.declared.log.Answer.{Answer as Told}
use Rattle.sq_log.specs.declared.log.Log.{Log}
use Rattle.sq_log.specs.declared.log.Step.{Step}
use Rattle.sq_log.specs.declared.log.Step.TheVariants as steps
use Rattle.sq_log.specs.declared.log.Tally.{Tally}

-- the answers with their lines' numbers, from `n` on: an empty line has none
abbrev pub told_from : {Found : Type 0} → ℕ → List (Answer Found) → List (Told Found)
told_from n [] = []
told_from n (None ∷ answers) = told_from (n + 1) answers
told_from n (Some verdict ∷ answers) = (record { number = n; verdict = verdict }) ∷ told_from (n + 1) answers

-- for each past that the start represents, these are the answers to these lines and their tally, and the state now
-- represents the past after the lines
abbrev pub AreAnswers : {State Past Found : Type 0} → Manner State Past Found → (start now : State) → Tally
    → List (List ℕ) → List (Told Found) → Type 0
AreAnswers {Past = Past} how start now tally lines answers = (past : Past) → how.stands_for start past
    → how.stands_for now (past_after how.way past lines) × (answers ≡ told_from 1 (answers_to how.way past lines))
    × (tally ≡ tally_of (answers_to how.way past lines))

-- The machine was given these bytes, and has heard their first lines, with these answers. It holds the bytes behind
-- these lines.
pub record HasHeard {State Past Found : Type 0} (how : Manner State Past Found) (start : State) (log : Log State)
    (given : List ℕ) (lines : List (List ℕ)) (answers : List (Told Found)) : Type 0 where
  pub kept : KeepsRest log.window.line log.window.waiting given lines
  pub number : log.number ≡ length lines
  pub told : AreAnswers how start log.job log.tally lines answers

-- no line feed waits
abbrev pub IsUpToDate : {State : Type 0} → Log State → Type 0
IsUpToDate log = HasNoFeed log.window.waiting

-- The result of a step. At `Fed`, all lines were heard that line feeds end. Otherwise the step took bytes of the piece,
-- and returned the next answer, or none. Without memory for the next line, that line was not heard, and waits.
abbrev pub IsStep : {State Past Found : Type 0} → Manner State Past Found → (start : State) → Step Found
    → (piece : List ℕ) → (new : Log State) → (given : List ℕ) → List (List ℕ) → List (Told Found) → Type 0
IsStep how start steps.Fed piece new given lines answers =
    (piece ≡ []) × HasHeard how start new given lines answers × IsUpToDate new × (lines ≡ ended_lines given)
IsStep how start (steps.Passed taken) piece new given lines answers =
    (more : List (List ℕ)) × HasHeard how start new (given ++ take taken piece) (lines ++ more) answers
IsStep how start (steps.Answered taken answer) piece new given lines answers =
    (line : List ℕ)
    × HasHeard how start new (given ++ take taken piece) (lines ++ line ∷ []) (answers ++ answer ∷ [])
IsStep how start (steps.NoMemory taken) piece new given lines answers =
    HasHeard how start new (given ++ take taken piece) lines answers
    × ((next : List ℕ) × IsPrefixOf (with_next lines next) (ended_lines (given ++ take taken piece))
    × WantsAt how new.job next)

-- the property holds of the step's answer, if there is one
abbrev pub IfAnswered : {Found : Type 0} → Step Found → (Told Found → Type 0) → Type 0
IfAnswered steps.Fed Property = ⊤
IfAnswered (steps.Passed taken) Property = ⊤
IfAnswered (steps.Answered taken answer) Property = Property answer
IfAnswered (steps.NoMemory taken) Property = ⊤

-- the step took at most this many bytes, and at `Fed` there are none
abbrev pub IsWithin : {Found : Type 0} → Step Found → ℕ → Type 0
IsWithin steps.Fed there = there ≡ 0
IsWithin (steps.Passed taken) there = taken ≤ there
IsWithin (steps.Answered taken answer) there = taken ≤ there
IsWithin (steps.NoMemory taken) there = taken ≤ there

-- the waiting bytes are fewer than before and twice the bytes that the step took
abbrev pub IsProgress : {State Found : Type 0} → Step Found → (old new : Log State) → Type 0
IsProgress steps.Fed old new = ⊤
IsProgress (steps.Passed taken) old new = length new.window.waiting < length old.window.waiting + 2 * taken
IsProgress (steps.Answered taken answer) old new = length new.window.waiting < length old.window.waiting + 2 * taken
IsProgress (steps.NoMemory taken) old new = ⊤
