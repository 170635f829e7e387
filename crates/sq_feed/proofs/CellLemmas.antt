-- Cells of a row, in order.
use Rattle.std.proofs.Common.{◌≡◌, ◌+◌, ◌-◌, ◌<◌, ◌≤◌, ◌∙◌, ℕ, zero, suc, Bool, true, false, List, length, drop, ap, arith, refl, sym}
use Rattle.std.specs.Prelude.{Some, None, if◌then◌else◌}
use Rattle.std.proofs.lemmas.Bool.{le-ltb, lt-ltb}
use Rattle.sq_feed.specs.Cells.{after_cell, cell_end, cell_of, first_cell, is_named, named_from}

after_is : (row : List ℕ) → cell_end row < length row → after_cell row ≡ Some (drop (cell_end row + 1) row)
after_is row within =
    ap (λ (t : Bool). if t then Some (drop (cell_end row + 1) row) else None) (lt-ltb _ _ within)

after_none : (row : List ℕ) → length row ≤ cell_end row → after_cell row ≡ None
after_none row past =
    ap (λ (t : Bool). if t then Some (drop (cell_end row + 1) row) else None) (le-ltb _ _ past)

no_cell : (k : ℕ) → cell_of k None ≡ None
no_cell zero = refl
no_cell (suc k) = refl

pub cell_next : (k step at : ℕ) (row rest : List ℕ) → step < k → cell_of k (Some row) ≡ cell_of (k - step) (Some rest)
    → at ≡ cell_end rest → at < length rest
    → cell_of k (Some row) ≡ cell_of (k - (step + 1)) (Some (drop (at + 1) rest))
cell_next k step at row rest less so is within =
    let more : k - step ≡ suc (k - (step + 1)) = omega (arith, less) in
    so ∙ ap (λ n. cell_of n (Some rest)) more
    ∙ ap (cell_of (k - (step + 1))) (after_is rest (omega (arith, is, within)))
    ∙ ap (λ n. cell_of (k - (step + 1)) (Some (drop (n + 1) rest))) (sym is)

pub cell_gone : (k step at : ℕ) (row rest : List ℕ) → step < k → cell_of k (Some row) ≡ cell_of (k - step) (Some rest)
    → at ≡ cell_end rest → at ≡ length rest → cell_of k (Some row) ≡ None
cell_gone k step at row rest less so is ends =
    let more : k - step ≡ suc (k - (step + 1)) = omega (arith, less) in
    so ∙ ap (λ n. cell_of n (Some rest)) more
    ∙ ap (cell_of (k - (step + 1))) (after_none rest (omega (arith, is, ends))) ∙ no_cell (k - (step + 1))

no_name : (cells : ℕ) (name : List ℕ) (k : ℕ) → named_from cells name k None ≡ None
no_name zero name k = refl
no_name (suc cells) name k = refl

-- the search goes on after a cell with another name
pub named_next : (all k at : ℕ) (name row rest : List ℕ) → k < all
    → named_from all name 0 (Some row) ≡ named_from (all - k) name k (Some rest) → at ≡ cell_end rest
    → at < length rest → is_named name (first_cell rest) ≡ false
    → named_from all name 0 (Some row) ≡ named_from (all - (k + 1)) name (k + 1) (Some (drop (at + 1) rest))
named_next all k at name row rest less so is within other =
    let more : all - k ≡ suc (all - (k + 1)) = omega (arith, less) in
    so ∙ ap (λ n. named_from n name k (Some rest)) more
    ∙ ap (λ (t : Bool). if t then Some k else named_from (all - (k + 1)) name (k + 1) (after_cell rest)) other
    ∙ ap (named_from (all - (k + 1)) name (k + 1)) (after_is rest (omega (arith, is, within)))
    ∙ ap (λ n. named_from (all - (k + 1)) name (k + 1) (Some (drop (n + 1) rest))) (sym is)

pub named_here : (all k : ℕ) (name row rest : List ℕ) → k < all
    → named_from all name 0 (Some row) ≡ named_from (all - k) name k (Some rest)
    → is_named name (first_cell rest) ≡ true → named_from all name 0 (Some row) ≡ Some k
named_here all k name row rest less so here =
    let more : all - k ≡ suc (all - (k + 1)) = omega (arith, less) in
    so ∙ ap (λ n. named_from n name k (Some rest)) more
    ∙ ap (λ (t : Bool). if t then Some k else named_from (all - (k + 1)) name (k + 1) (after_cell rest)) here

pub named_gone : (all k at : ℕ) (name row rest : List ℕ) → k < all
    → named_from all name 0 (Some row) ≡ named_from (all - k) name k (Some rest) → at ≡ cell_end rest
    → at ≡ length rest → is_named name (first_cell rest) ≡ false → named_from all name 0 (Some row) ≡ None
named_gone all k at name row rest less so is ends other =
    let more : all - k ≡ suc (all - (k + 1)) = omega (arith, less) in
    so ∙ ap (λ n. named_from n name k (Some rest)) more
    ∙ ap (λ (t : Bool). if t then Some k else named_from (all - (k + 1)) name (k + 1) (after_cell rest)) other
    ∙ ap (named_from (all - (k + 1)) name (k + 1)) (after_none rest (omega (arith, is, ends)))
    ∙ no_name (all - (k + 1)) name (k + 1)

pub named_end : (all k : ℕ) (name row rest : List ℕ) → all ≤ k
    → named_from all name 0 (Some row) ≡ named_from (all - k) name k (Some rest)
    → named_from all name 0 (Some row) ≡ None
named_end all k name row rest past so =
    let none : all - k ≡ 0 = omega (arith, past) in so ∙ ap (λ n. named_from n name k (Some rest)) none
