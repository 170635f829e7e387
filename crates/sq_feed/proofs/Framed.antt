-- Frames in a text, and in the cells of a row.
use Rattle.std.proofs.Common.{◌≡◌, ◌≢◌, ◌+◌, ◌-◌, ◌<◌, ◌≤◌, ◌++◌, ◌∙◌, ℕ, Bool, true, false, List, [], ◌∷◌, length, take, drop, get_or, refl, sym, ap, arith, add-one, drop-cons}
use Rattle.std.proofs.lemmas.Bool.{eq-eqb, ne_eqb}
use Rattle.std.proofs.lemmas.List.{get_or-drop, length-drop, take_more}
use Rattle.std.specs.Prelude.{◌||◌, Option, Some, None, if◌then◌else◌, option_to_list}
use Rattle.sq_feed.specs.declared.message.Found.{Found}
use Rattle.sq_feed.specs.Finding.{has_frame, is_framed}
use Rattle.sq_feed.specs.Follows.{Follows}
use Rattle.sq_feed.specs.Tables.{frame_cell_from, is_frame_cell}

next_byte : (text : List ℕ) (at : ℕ) → at < length text → drop at text ≡ get_or text at 0 ∷ drop (at + 1) text
next_byte text at within =
    drop-cons text at 0 within ∙ ap (λ n. get_or text at 0 ∷ drop n text) (sym (add-one at))

-- a frame is in the item that a byte ends, or in the text after it
pub framed_on : (old new : List ℕ → List Found) (text : List ℕ) (at : ℕ) (found : Option Found) → at < length text
    → Follows old (get_or text at 0 ∷ []) (option_to_list found) new
    → has_frame (old (drop at text)) ≡ (has_frame (option_to_list found) || has_frame (new (drop (at + 1) text)))
unfolding Follows
framed_on old new text at found within follows =
    ap (λ l. has_frame (old l)) (next_byte text at within)
    ∙ ap has_frame (follows (drop (at + 1) text))
    ∙ both found (new (drop (at + 1) text))
  where
    by : (t u : Bool) → (t || u) ≡ ((t || false) || u)
    by true u = refl
    by false u = refl

    both : (item : Option Found) (more : List Found)
        → has_frame (option_to_list item ++ more) ≡ (has_frame (option_to_list item) || has_frame more)
    both None more = refl
    both (Some item) more = by (is_framed item) (has_frame more)

-- ---- cells of a row

abbrev Cell : ℕ → ℕ → List ℕ → List ℕ
Cell start at row = take (at - start) (drop start row)

-- a separator ends the cell so far
cell_ends : (separator : ℕ) (row : List ℕ) (start at : ℕ) → at < length row → get_or row at 0 ≡ separator
    → frame_cell_from separator (Cell start at row) (drop at row)
    ≡ (is_frame_cell (Cell start at row) || frame_cell_from separator [] (drop (at + 1) row))
cell_ends separator row start at within is =
    ap (frame_cell_from separator (Cell start at row)) (next_byte row at within)
    ∙ ap (λ (t : Bool). if t then is_frame_cell (Cell start at row) || frame_cell_from separator [] (drop (at + 1) row)
    else frame_cell_from separator (Cell start at row ++ get_or row at 0 ∷ []) (drop (at + 1) row))
    (eq-eqb (get_or row at 0) separator is)

-- any other byte is one of the cell
cell_goes_on : (separator : ℕ) (row : List ℕ) (start at : ℕ) → start ≤ at → at < length row
    → get_or row at 0 ≢ separator
    → frame_cell_from separator (Cell start at row) (drop at row)
    ≡ frame_cell_from separator (Cell start (at + 1) row) (drop (at + 1) row)
cell_goes_on separator row start at begun within other =
    ap (frame_cell_from separator (Cell start at row)) (next_byte row at within)
    ∙ ap (λ (t : Bool). if t then is_frame_cell (Cell start at row) || frame_cell_from separator [] (drop (at + 1) row)
    else frame_cell_from separator (Cell start at row ++ get_or row at 0 ∷ []) (drop (at + 1) row))
    (ne_eqb (get_or row at 0) separator other)
    ∙ ap (λ l. frame_cell_from separator l (drop (at + 1) row)) (sym longer)
  where
    longer : Cell start (at + 1) row ≡ Cell start at row ++ get_or row at 0 ∷ []
    longer =
        ap (λ n. take n (drop start row)) (omega (arith, begun))
        ∙ take_more (drop start row) (at - start) 0 (omega (arith, begun, within, length-drop start row))
        ∙ ap (λ b. Cell start at row ++ b ∷ []) (get_or-drop start row (at - start) 0
        ∙ ap (λ n. get_or row n 0) (omega (arith, begun)))

-- the cell so far after a byte: `next` is where it begins
abbrev pub IsCellAt : (separator : ℕ) (row : List ℕ) (next at : ℕ) → Type 0
IsCellAt separator row next at =
    (next ≤ at) × (frame_cell_from separator [] row ≡ frame_cell_from separator (Cell next at row) (drop at row))

pub after_separator : (separator : ℕ) (row : List ℕ) (start at next : ℕ) → IsCellAt separator row start at
    → at < length row → get_or row at 0 ≡ separator → is_frame_cell (Cell start at row) ≡ false → next ≡ at + 1
    → IsCellAt separator row next (at + 1)
after_separator separator row start at next so within is none begins =
    let empty : 0 ≡ at + 1 - next = omega (arith, begins) in (
      omega (arith, begins),
      so.1 ∙ cell_ends separator row start at within is
          ∙ ap (λ (t : Bool). t || frame_cell_from separator [] (drop (at + 1) row)) none
          ∙ ap (λ n. frame_cell_from separator (take n (drop next row)) (drop (at + 1) row)) empty,
    )

pub after_other : (separator : ℕ) (row : List ℕ) (start at next : ℕ) → IsCellAt separator row start at
    → at < length row → get_or row at 0 ≢ separator → next ≡ start → IsCellAt separator row next (at + 1)
after_other separator row start at next so within other begins = (
  omega (arith, so.0, begins),
  so.1 ∙ cell_goes_on separator row start at so.0 within other
      ∙ ap (λ n. frame_cell_from separator (Cell n (at + 1) row) (drop (at + 1) row)) (sym begins),
)
