-- What stands on a held line, by the cases of the code.
use Rattle.std.proofs.Common.{◌≡◌, ◌<◌, ◌≤◌, ◌∙◌, ℕ, Bool, true, false, List, length, ap, sym, cond}
use Rattle.std.specs.Prelude.{◌==◌}
use Rattle.std.specs.Io.BufRead.{strip_last}
use Rattle.std.proofs.lemmas.Bool.{le-ltb, lt-ltb, ltb-false, ltb-true}
use Rattle.std.proofs.lemmas.List.{take_all}
use Rattle.sq_log.specs.Rests.{HeldLine, Holds}
use Rattle.sq_log.specs.Content.{Content, Long, Empty, Text, content}

-- the definition as a function of its two tests
abbrev by_tests : Bool → Bool → List ℕ → Content
by_tests is_long is_empty text = cond is_long Long (cond is_empty Empty (Text text))

-- a line that is too long
pub content-over : (line : List ℕ) → 64 < length line → content line ≡ Long
unfolding content
content-over line over =
    let text = strip_last 13 line in ap (λ b. by_tests b (length text == 0) text) (lt-ltb 64 (length line) over)

-- one that is not, by whether there is a text
pub content-within : (line text : List ℕ) (is_empty : Bool) → length line ≤ 64 → text ≡ strip_last 13 line
    → (length text == 0) ≡ is_empty → content line ≡ cond is_empty Empty (Text text)
unfolding content
content-within line text is_empty within is test =
    let own = strip_last 13 line in
    ap (λ b. by_tests b (length own == 0) own) (le-ltb 64 (length line) within)
    ∙ ap (λ (t : List ℕ). by_tests false (length t == 0) t) (sym is)
    ∙ ap (λ b. by_tests false b text) test

-- a held line that is long
pub content-long : (held : HeldLine) (line : List ℕ) → Holds held line → held.is_long ≡ true → content line ≡ Long
content-long held line h long = content-over line (ltb-true 64 (length line) (sym h.more ∙ long))

-- one that is not is held whole
pub content-short : (held : HeldLine) (line : List ℕ) → Holds held line → held.is_long ≡ false
    → content held.line ≡ content line
content-short held line h short =
    ap content (h.front ∙ take_all 64 line (ltb-false 64 (length line) (sym h.more ∙ short)))
