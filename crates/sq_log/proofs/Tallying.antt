-- One more line in the output and in the tally.
use Rattle.std.proofs.Common.{◌≡◌, ◌+◌, ◌-◌, ◌++◌, ◌∙◌, ℕ, Bool, List, [], ◌∷◌, None, Some, Ok, Err, Result, length}
use Rattle.std.proofs.Common.{ap, ap₂, sym, arith, refl, cond, drop, take, take-append-drop}
use Rattle.sq_text.specs.declared.faults.LineFault.{LineFault}
use Rattle.std.specs.Prelude.{count_by}
use Rattle.std.specs.List.{flat_map, enumerate_from}
use Rattle.std.proofs.lemmas.List.{take_at, length_push}
use Rattle.std.proofs.lemmas.List.Concat.{flat_map-append}
use Rattle.std.proofs.lemmas.List.Sums.{sum_by_push}
use Rattle.sq_devices.specs.Device.{IsPrefixOf}
use Rattle.sq_log.specs.Answers.{Answerer, after_line, answer_line, past_after, answers_to, answer_text}
use Rattle.sq_log.specs.Answers.{texts_of, tally_of, is_good, is_refused, noted}
use Rattle.sq_log.specs.Content.{Answer}
use Rattle.sq_log.specs.declared.log.Tally.{Tally}

pub answers_append : {Past Found : Type 0} (way : Answerer Past Found) (past : Past) (xs ys : List (List ℕ))
    → answers_to way past (xs ++ ys) ≡ answers_to way past xs ++ answers_to way (past_after way past xs) ys
answers_append way past [] ys = refl
answers_append way past (x ∷ xs) ys =
    ap (λ l. answer_line way past x ∷ l) (answers_append way (after_line way past x) xs ys)

pub past_push : {Past Found : Type 0} (way : Answerer Past Found) (past : Past) (lines : List (List ℕ)) (line : List ℕ)
    → past_after way past (lines ++ line ∷ []) ≡ after_line way (past_after way past lines) line
past_push way past [] line = refl
past_push way past (x ∷ xs) line = past_push way (after_line way past x) xs line

pub length_answers : {Past Found : Type 0} (way : Answerer Past Found) (past : Past) (lines : List (List ℕ))
    → length (answers_to way past lines) ≡ length lines
length_answers way past [] = refl
length_answers way past (x ∷ xs) = omega (arith, length_answers way (after_line way past x) xs)

enumerate_from_append : {X : Type 0} (n : ℕ) (xs ys : List X)
    → enumerate_from n (xs ++ ys) ≡ enumerate_from n xs ++ enumerate_from (n + length xs) ys
enumerate_from_append n [] ys = let e : n ≡ n + 0 = omega arith in ap (λ (k : ℕ). enumerate_from k ys) e
enumerate_from_append n (x ∷ xs) ys =
    let e : (n + 1) + length xs ≡ n + length (x ∷ xs) = omega arith in
    ap (λ l. (n, x) ∷ l) (enumerate_from_append (n + 1) xs ys
    ∙ ap (λ (k : ℕ). enumerate_from (n + 1) xs ++ enumerate_from k ys) e)

-- the texts of answers that are numbered from here
abbrev texts_from : {Found : Type 0} → (ℕ → Result Found LineFault → List ℕ) → ℕ → List (Answer Found) → List ℕ
texts_from text n answers = flat_map (λ entry. answer_text text entry.0 entry.1) (enumerate_from n answers)

-- more answers leave the texts of the first ones unchanged
pub texts_prefix : {Found : Type 0} (text : ℕ → Result Found LineFault → List ℕ) (n : ℕ) (answers : List (Answer Found))
    → IsPrefixOf (texts_of text (take n answers)) (texts_of text answers)
unfolding texts_of
texts_prefix text n answers =
    let told : ℕ × Answer _ → List ℕ = λ entry. answer_text text entry.0 entry.1 in
    let first = take n answers in
    let more = drop n answers in (
      texts_from text (1 + length first) more,
      ap (λ all. flat_map told (enumerate_from 1 all)) (sym (take-append-drop n answers))
          ∙ ap (flat_map told) (enumerate_from_append 1 first more)
          ∙ flat_map-append told (enumerate_from 1 first) (enumerate_from (1 + length first) more),
    )

pub texts_none : {Found : Type 0} (text : ℕ → Result Found LineFault → List ℕ) → texts_of text [] ≡ []
unfolding texts_of
texts_none text = refl

-- the answers to all lines but the last
pub answers_but_last : {Past Found : Type 0} (way : Answerer Past Found) (past : Past) (lines : List (List ℕ))
    (line : List ℕ)
    → (let answers = answers_to way past (lines ++ line ∷ []) in
    take (length answers - 1) answers ≡ answers_to way past lines)
answers_but_last way past lines line =
    let first = answers_to way past lines in
    let last = answer_line way (past_after way past lines) line in
    ap (λ answers. take (length answers - 1) answers) (answers_append way past lines (line ∷ []))
    ∙ take_at first (last ∷ []) (length (first ++ last ∷ []) - 1) (omega (arith, length_push first last))

pub tally_nothing : {Past Found : Type 0} (way : Answerer Past Found) (past : Past)
    → tally_of (answers_to way past []) ≡ record { good = 0; refused = 0 }
unfolding tally_of
tally_nothing way past = refl

count_by_more : {X : Type 0} (p : X → Bool) (xs : List X) (x : X)
    → count_by p (xs ++ x ∷ []) ≡ count_by p xs + cond (p x) 1 0
count_by_more p xs x = sum_by_push (λ y. cond (p y) 1 0) xs x

noted_by_counts : {Found : Type 0} (good refused : ℕ) (answer : Answer Found)
    → (let counted : Tally = record {
      good = good + cond (is_good answer) 1 0;
      refused = refused + cond (is_refused answer) 1 0;
    } in
    counted ≡ noted (record { good = good; refused = refused }) answer)
noted_by_counts good refused None =
    let tally : ℕ → ℕ → Tally = λ g r. record { good = g; refused = r } in
    let g : good + 0 ≡ good = omega arith in
    let r : refused + 0 ≡ refused = omega arith in
    ap₂ tally g r
noted_by_counts good refused (Some (Ok found)) =
    let tally : ℕ → ℕ → Tally = λ g r. record { good = g; refused = r } in
    let r : refused + 0 ≡ refused = omega arith in
    ap (tally (good + 1)) r
noted_by_counts good refused (Some (Err fault)) =
    let tally : ℕ → ℕ → Tally = λ g r. record { good = g; refused = r } in
    let g : good + 0 ≡ good = omega arith in
    ap (λ (n : ℕ). tally n (refused + 1)) g

pub tally_push : {Past Found : Type 0} (way : Answerer Past Found) (past : Past) (lines : List (List ℕ)) (line : List ℕ)
    → tally_of (answers_to way past (lines ++ line ∷ []))
    ≡ noted (tally_of (answers_to way past lines)) (answer_line way (past_after way past lines) line)
unfolding tally_of
tally_push {Found = Found} way past lines line =
    let tally : ℕ → ℕ → Tally = λ g r. record { good = g; refused = r } in
    let first : List (Answer Found) = answers_to way past lines in
    let answer : Answer Found = answer_line way (past_after way past lines) line in
    ap (λ (answers : List (Answer Found)). tally (count_by is_good answers) (count_by is_refused answers))
    (answers_append way past lines (line ∷ []))
    ∙ ap₂ tally (count_by_more is_good first answer) (count_by_more is_refused first answer)
    ∙ noted_by_counts (count_by is_good first) (count_by is_refused first) answer
