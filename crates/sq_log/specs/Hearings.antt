-- Hearing a text, and hearing a line.
use Rattle.std.specs.Prelude.{◌≡◌, ℕ, List, None, Some, Ok, Err}
use Rattle.sq_log.specs.Answers.{Manner, WantsAt, after_line, answer_line}
use Rattle.sq_log.specs.declared.log.LineHeard.{LineHeard}
use Rattle.sq_log.specs.declared.log.LineHeard.TheVariants as lines
use Rattle.sq_log.specs.declared.job.Verdict.{Verdict}
use Rattle.sq_log.specs.declared.job.Verdict.TheVariants as verdicts

-- a text was heard, for each past that the state stood for; without memory it was not heard
abbrev pub IsHeard : {State Past Found : Type 0} → Manner State Past Found → Verdict Found → (text : List ℕ)
    → (old new : State) → Type 0
IsHeard {Past = Past} how (verdicts.Good found) text old new = (past : Past) → how.stands_for old past
    → (how.way.answer past text ≡ Ok found) × how.stands_for new (how.way.after past text)
IsHeard {Past = Past} how (verdicts.Refused fault) text old new = (past : Past) → how.stands_for old past
    → (how.way.answer past text ≡ Err fault) × how.stands_for new (how.way.after past text)
IsHeard how verdicts.NoMemory text old new = (new ≡ old) × how.wants old text

-- a line was heard
abbrev pub IsLineHeard : {State Past Found : Type 0} → Manner State Past Found → LineHeard Found → (line : List ℕ)
    → (old new : State) → Type 0
IsLineHeard {Past = Past} how lines.Nothing line old new = (past : Past) → how.stands_for old past
    → (answer_line how.way past line ≡ None) × how.stands_for new (after_line how.way past line)
IsLineHeard {Past = Past} how (lines.Good found) line old new = (past : Past) → how.stands_for old past
    → (answer_line how.way past line ≡ Some (Ok found)) × how.stands_for new (after_line how.way past line)
IsLineHeard {Past = Past} how (lines.Refused fault) line old new = (past : Past) → how.stands_for old past
    → (answer_line how.way past line ≡ Some (Err fault)) × how.stands_for new (after_line how.way past line)
IsLineHeard how lines.NoMemory line old new = (new ≡ old) × WantsAt how old line
