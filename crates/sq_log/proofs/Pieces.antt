-- An input that comes in pieces has the same lines.
use Rattle.std.proofs.Common.{◌≡◌, ◌++◌, ◌∙◌, ℕ, suc, Bool, true, false, List, [], ◌∷◌, length, take, map, ap, ap₂}
use Rattle.std.proofs.Common.{refl, sym, subst, arith, append_assoc, append-nil}
use Rattle.std.specs.Prelude.{◌+◌, ◌==◌, MatchBool, if◌then◌else◌}
use Rattle.std.specs.List.{All, before_first, flat_map, position_or_len}
use Rattle.std.proofs.lemmas.Bool.{ltb-true, ltb-false, ne_eqb}
use Rattle.std.proofs.lemmas.List.{take_all}
use Rattle.std.proofs.lemmas.List.Elements.{All-head, All-tail, All-nil, All-cons}
use Rattle.sq_log.specs.Rests.{HeldLine, GoesOn, Holds, empty_line, has_feed}
use Rattle.sq_log.specs.Lines.{is_feed, HasNoFeed, Cuts, as_last_line, lines_of, with_feed}
use Rattle.sq_log.specs.Pieces.{AreTakes, GivesTheLines, Step, Told, lines_told, taken, told_by, told_last, told_of}
use Rattle.sq_log.proofs.Cutting.{cuts_nothing, cuts_more, cuts_ended, ended_lines-cut, last_part-cut}
use Rattle.sq_log.proofs.Feeds.{all_before, before_has_none, through_first}

-- what one take took: bytes and a line feed, or bytes alone
data Take : Type 0 where
  Ended : (front : List ℕ) → Take
  Unended : (front : List ℕ) → Take

abbrev front_of : Take → List ℕ
front_of (Ended front) = front
front_of (Unended front) = front

abbrev bytes_of : Take → List ℕ
bytes_of (Ended front) = with_feed front
bytes_of (Unended front) = front

-- the lines that the takes complete, and what is held after them, unless it is empty
abbrev lines_from : List ℕ → List Take → List (List ℕ)
lines_from held [] = as_last_line held
lines_from held (Ended front ∷ takes) = (held ++ front) ∷ lines_from [] takes
lines_from held (Unended front ∷ takes) = lines_from (held ++ front) takes

lines_of-cut : (input : List ℕ) (lines : List (List ℕ)) (rest : List ℕ) → Cuts input lines rest
    → lines ++ as_last_line rest ≡ lines_of input
lines_of-cut input lines rest cut =
    sym (ap₂ (λ ls part. ls ++ as_last_line part) (ended_lines-cut input lines rest cut)
    (last_part-cut input lines rest cut))

from_here : (input : List ℕ) (lines : List (List ℕ)) (rest : List ℕ) (takes : List Take) → Cuts input lines rest
    → All (λ t. HasNoFeed (front_of t)) takes
    → lines ++ lines_from rest takes ≡ lines_of (input ++ flat_map bytes_of takes)
from_here input lines rest [] cut none = lines_of-cut input lines rest cut ∙ ap lines_of (sym (append-nil input))
from_here input lines rest (Ended front ∷ takes) cut none =
    let next = cuts_ended input lines rest front cut
    (All-head (λ t. HasNoFeed (front_of t)) (Ended front) takes none) in
    sym (append_assoc lines ((rest ++ front) ∷ []) (lines_from [] takes))
    ∙ from_here (input ++ with_feed front) (lines ++ (rest ++ front) ∷ []) [] takes next
    (All-tail (λ t. HasNoFeed (front_of t)) (Ended front) takes none)
    ∙ ap lines_of (append_assoc input (with_feed front) (flat_map bytes_of takes))
from_here input lines rest (Unended front ∷ takes) cut none =
    let next = cuts_more input lines rest front cut
    (All-head (λ t. HasNoFeed (front_of t)) (Unended front) takes none) in
    from_here (input ++ front) lines (rest ++ front) takes next
    (All-tail (λ t. HasNoFeed (front_of t)) (Unended front) takes none)
    ∙ ap lines_of (append_assoc input front (flat_map bytes_of takes))

-- ---- what a cutter's takes took

take_by : Bool → List ℕ → Take
take_by true front = Ended front
take_by false front = Unended front

take_of : Step → Take
take_of step = take_by (has_feed step.piece) (before_first is_feed step.piece)

front_by : (ended : Bool) (front : List ℕ) → HasNoFeed front → HasNoFeed (front_of (take_by ended front))
unfolding take_by
front_by true front none = none
front_by false front none = none

none_of : (steps : List Step) → All (λ t. HasNoFeed (front_of t)) (map take_of steps)
unfolding take_of
none_of [] = All-nil (λ t. HasNoFeed (front_of t))
none_of (step ∷ steps) =
    All-cons (λ t. HasNoFeed (front_of t)) (take_of step) (map take_of steps)
    (front_by (has_feed step.piece) (before_first is_feed step.piece) (before_has_none step.piece)) (none_of steps)

bytes_by : (piece : List ℕ) (ended : Bool) → has_feed piece ≡ ended
    → bytes_of (take_by ended (before_first is_feed piece))
    ≡ take (if ended then position_or_len is_feed piece + 1 else length piece) piece
unfolding take_by
bytes_by piece true e = sym (through_first piece (ltb-true _ _ e))
bytes_by piece false e = all_before piece (ltb-false _ _ e) ∙ sym (take_all (length piece) piece (omega arith))

bytes_taken : (steps : List Step) → flat_map bytes_of (map take_of steps) ≡ flat_map taken steps
unfolding take_of
bytes_taken [] = refl
bytes_taken (step ∷ steps) = ap₂ (λ xs ys. xs ++ ys) (bytes_by step.piece (has_feed step.piece) refl)
    (bytes_taken steps)

-- ---- what a cutter reports

told_is : (held : HeldLine) (line : List ℕ) → Holds held line → told_by held ≡ told_of line
told_is held line h = λ i. record { front = h.front i; is_long = h.more i }

not_empty : (n : ℕ) → (suc n == 0) ≡ false
not_empty n = ne_eqb (suc n) 0 (λ e. absurd (omega (arith, e)))

-- what is reported of a line that is held
told_rest : (held : HeldLine) (line : List ℕ) → Holds held line
    → (if length held.line == 0 then [] else told_by held ∷ []) ≡ map told_of (as_last_line line)
told_rest held [] h = ap (λ (l : List ℕ). if length l == 0 then [] else told_by held ∷ []) h.front
told_rest held (b ∷ bs) h =
    ap (λ (l : List ℕ). if length l == 0 then [] else told_by held ∷ []) h.front
    ∙ ap (λ (c : Bool). if c then [] else told_by held ∷ []) (not_empty (length (take 63 bs)))
    ∙ ap (λ (t : Told). t ∷ []) (told_is held (b ∷ bs) h)
    ∙ sym (ap (λ (c : Bool). map told_of (if c then [] else (b ∷ bs) ∷ [])) (not_empty (length bs)))

last_by : (complete : Bool) (held : HeldLine) (line : List ℕ) → held.is_complete ≡ complete
    → MatchBool complete (line ≡ []) (Holds held line)
    → told_last held ≡ map told_of (as_last_line line)
last_by true held line e none =
    ap (λ (c : Bool). if c then [] else (if length held.line == 0 then [] else told_by held ∷ [])) e
    ∙ sym (ap (λ (l : List ℕ). map told_of (as_last_line l)) none)
last_by false held line e h =
    ap (λ (c : Bool). if c then [] else (if length held.line == 0 then [] else told_by held ∷ [])) e
    ∙ told_rest held line h

-- the lines from a take on, by whether it ends one
lines_by : Bool → List ℕ → List Take → List (List ℕ)
lines_by true line takes = line ∷ lines_from [] takes
lines_by false line takes = lines_from line takes

lines_step : (ended : Bool) (held front : List ℕ) (takes : List Take)
    → lines_from held (take_by ended front ∷ takes) ≡ lines_by ended (held ++ front) takes
unfolding take_by lines_by
lines_step true held front takes = refl
lines_step false held front takes = refl

told_step : (ended : Bool) (after : HeldLine) (steps : List Step) (line : List ℕ) → after.is_complete ≡ ended
    → Holds after line
    → ((next : List ℕ) → GoesOn after next → lines_told after steps ≡ map told_of (lines_from next (map take_of steps)))
    → (if after.is_complete then told_by after ∷ lines_told after steps else lines_told after steps)
    ≡ map told_of (lines_by ended line (map take_of steps))
unfolding lines_by
told_step true after steps line e h rest =
    let none : GoesOn after [] = subst (λ (c : Bool). MatchBool c (◌≡◌ {A = List ℕ} [] []) (Holds after []))
    (sym e) refl in
    ap (λ (c : Bool). if c then told_by after ∷ lines_told after steps else lines_told after steps) e
    ∙ ap₂ (λ t ts. t ∷ ts) (told_is after line h) (rest [] none)
told_step false after steps line e h rest =
    let more : GoesOn after line = subst (λ (c : Bool). MatchBool c (line ≡ []) (Holds after line)) (sym e) h in
    ap (λ (c : Bool). if c then told_by after ∷ lines_told after steps else lines_told after steps) e ∙ rest line more

told_from : (steps : List Step) (held : HeldLine) (line : List ℕ) → GoesOn held line → AreTakes held steps
    → lines_told held steps ≡ map told_of (lines_from line (map take_of steps))
unfolding take_of
told_from [] held line on takes = last_by held.is_complete held line refl on
told_from (step ∷ steps) held line on (is, takes) =
    told_step (has_feed step.piece) step.after steps (line ++ before_first is_feed step.piece) is.noted
    (is.held line on) (λ next goes. told_from steps step.after next goes takes)
    ∙ ap (map told_of) (sym (lines_step (has_feed step.piece) line (before_first is_feed step.piece)
    (map take_of steps)))

pub gives_the_lines : GivesTheLines
gives_the_lines steps takes =
    told_from steps empty_line [] (record { front = refl; more = refl }) takes
    ∙ ap (map told_of) (from_here [] [] [] (map take_of steps) cuts_nothing (none_of steps)
    ∙ ap lines_of (bytes_taken steps))
