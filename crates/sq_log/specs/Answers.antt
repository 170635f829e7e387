-- The answers to lines, each by the lines before it.
use Rattle.std.specs.Prelude.{◌≡◌, ◌+◌, ℕ, Bool, List, [], ◌∷◌, None, Some, Result, Ok, Err, true, false, count_by}
use Rattle.std.specs.List.{flat_map, enumerate_from}
use Rattle.sq_text.specs.declared.faults.LineFault.{LineFault}
use Rattle.sq_log.specs.Content.{Answer, Content, Long, Empty, Text, answer_by, content}
use Rattle.sq_log.specs.declared.log.Tally.{Tally}

-- how texts are answered: the answer to a text by the past, and the past after the text
pub record Answerer (Past Found : Type 0) : Type 0 where
  pub answer : Past → List ℕ → Result Found LineFault
  pub after : Past → List ℕ → Past

-- how a state answers texts: the pasts that it represents, the answers after each past, and the texts that may need
-- memory
pub record Manner (State Past Found : Type 0) : Type 1 where
  pub stands_for : State → Past → Type 0
  pub way : Answerer Past Found
  pub wants : State → List ℕ → Type 0

-- the answer to a line by the past: a long line is at fault, an empty line has no answer
abbrev pub answer_line : {Past Found : Type 0} → Answerer Past Found → Past → List ℕ → Answer Found
answer_line way past line = answer_by (way.answer past) line

-- only a text changes the past
abbrev pub after_content : {Past : Type 0} → (List ℕ → Past) → Past → Content → Past
after_content after past Long = past
after_content after past Empty = past
after_content after past (Text text) = after text

-- the past after a line
abbrev pub after_line : {Past Found : Type 0} → Answerer Past Found → Past → List ℕ → Past
after_line way past line = after_content (way.after past) past (content line)

-- the state may want memory for the text of this line
abbrev pub WantsAt : {State Past Found : Type 0} → Manner State Past Found → State → List ℕ → Type 0
WantsAt how state line = (text : List ℕ) × (content line ≡ Text text) × how.wants state text

-- the past after these lines
abbrev pub past_after : {Past Found : Type 0} → Answerer Past Found → Past → List (List ℕ) → Past
past_after way past [] = past
past_after way past (line ∷ lines) = past_after way (after_line way past line) lines

-- the answers to these lines, each by the past before it
abbrev pub answers_to : {Past Found : Type 0} → Answerer Past Found → Past → List (List ℕ) → List (Answer Found)
answers_to way past [] = []
answers_to way past (line ∷ lines) = answer_line way past line ∷ answers_to way (after_line way past line) lines

-- the text of the answer to the line with this number, if verdicts are written in this way
abbrev pub answer_text : {Found : Type 0} → (ℕ → Result Found LineFault → List ℕ) → ℕ → Answer Found → List ℕ
answer_text text number None = []
answer_text text number (Some verdict) = text number verdict

-- the texts of these answers, numbered from 1
unfoldable pub texts_of : {Found : Type 0} → (ℕ → Result Found LineFault → List ℕ) → List (Answer Found) → List ℕ
texts_of text answers = flat_map (λ entry. answer_text text entry.0 entry.1) (enumerate_from 1 answers)

abbrev pub is_good : {Found : Type 0} → Answer Found → Bool
is_good (Some (Ok found)) = true
is_good (Some (Err fault)) = false
is_good None = false

abbrev pub is_refused : {Found : Type 0} → Answer Found → Bool
is_refused (Some (Ok found)) = false
is_refused (Some (Err fault)) = true
is_refused None = false

-- the numbers of good and of refused answers
unfoldable pub tally_of : {Found : Type 0} → List (Answer Found) → Tally
tally_of answers = record { good = count_by is_good answers; refused = count_by is_refused answers }

-- the tally with the answer to one more line
abbrev pub noted : {Found : Type 0} → Tally → Answer Found → Tally
noted tally None = tally
noted tally (Some (Ok found)) = record tally { good = tally.good + 1 }
noted tally (Some (Err fault)) = record tally { refused = tally.refused + 1 }
