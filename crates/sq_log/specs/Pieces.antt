-- The takes of a cutter over an input that comes in pieces.
use Rattle.std.specs.Prelude.{◌≡◌, ◌==◌, ◌++◌, ⊤, ℕ, Bool, List, [], ◌∷◌, length, take, map, nat_lt, if◌then◌else◌}
use Rattle.std.specs.List.{before_first, flat_map}
use Rattle.sq_log.specs.Rests.{HeldLine, GoesOn, Holds, count_through, empty_line, has_feed}
use Rattle.sq_log.specs.Lines.{is_feed, lines_of}

-- `take` of this piece: whether the line is complete, and its bytes so far
pub record IsTake (before : HeldLine) (piece : List ℕ) (after : HeldLine) : Type 0 where
  pub noted : after.is_complete ≡ has_feed piece
  pub held : (line : List ℕ) → GoesOn before line → Holds after (line ++ before_first is_feed piece)

-- a take: the piece, and what is held after it
pub record Step : Type 0 where
  pub piece : List ℕ
  pub after : HeldLine

-- takes, one after the other
abbrev pub AreTakes : HeldLine → List Step → Type 0
AreTakes before [] = ⊤
AreTakes before (step ∷ steps) = IsTake before step.piece step.after × AreTakes step.after steps

-- the bytes that were taken of the piece
abbrev pub taken : Step → List ℕ
taken step = take (count_through step.piece) step.piece

-- the report on a line: its first 64 bytes, and whether it has more
pub record Told : Type 0 where
  pub front : List ℕ
  pub is_long : Bool

abbrev pub told_of : List ℕ → Told
told_of line = record { front = take 64 line; is_long = nat_lt 64 (length line) }

abbrev pub told_by : HeldLine → Told
told_by held = record { front = held.line; is_long = held.is_long }

-- the held bytes at the end are a line, unless they are empty or were reported as a complete line
abbrev pub told_last : HeldLine → List Told
told_last held = if held.is_complete then [] else (if length held.line == 0 then [] else told_by held ∷ [])

-- the reports on the lines, each once it is complete, and on the last line
abbrev pub lines_told : HeldLine → List Step → List Told
lines_told held [] = told_last held
lines_told held (step ∷ steps) =
    if step.after.is_complete then told_by step.after ∷ lines_told step.after steps else lines_told step.after steps

-- However an input is split into pieces, a cutter that was empty reports the lines of the whole input in order.
abbrev pub GivesTheLines : Type 0
GivesTheLines = (steps : List Step) → AreTakes empty_line steps → lines_told empty_line steps
    ≡ map told_of (lines_of (flat_map taken steps))
