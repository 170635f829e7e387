-- The part of a line that is held.
use Rattle.std.specs.Prelude.{◌≡◌, ◌+◌, ◌<◌, ◌⊎◌, ◌++◌, ℕ, Bool, List, [], length, take, nat_lt, false, MatchBool}
use Rattle.std.specs.Prelude.{if◌then◌else◌}
use Rattle.std.specs.List.{position_or_len}
use Rattle.sq_log.specs.Lines.{Cuts, is_feed}

-- the first 64 bytes of a line, whether it has more, and whether its line feed was taken
pub record HeldLine : Type 0 where
  pub line : List ℕ
  pub is_long : Bool
  pub is_complete : Bool

abbrev pub empty_line : HeldLine
empty_line = record { line = []; is_long = false; is_complete = false }

-- the cutter holds this line
pub record Holds (held : HeldLine) (line : List ℕ) : Type 0 where
  pub front : held.line ≡ take 64 line
  pub more : held.is_long ≡ nat_lt 64 (length line)

-- the next take goes on with this line: a complete one is dropped first
abbrev pub GoesOn : HeldLine → List ℕ → Type 0
GoesOn held line = MatchBool held.is_complete (line ≡ []) (Holds held line)

-- whether the piece has a line feed
abbrev pub has_feed : List ℕ → Bool
has_feed piece = nat_lt (position_or_len is_feed piece) (length piece)

-- the number of bytes up to and including the first line feed, or of all bytes
abbrev pub count_through : List ℕ → ℕ
count_through piece = if has_feed piece then position_or_len is_feed piece + 1 else length piece

-- these bytes stand for the line: they equal it, or both are too long
abbrev pub IsHeldAs : List ℕ → List ℕ → Type 0
IsHeldAs bytes line = (bytes ≡ line) ⊎ ((64 < length bytes) × (64 < length line))

-- the given bytes are these lines, then an unfinished line, and last the bytes not yet looked at; `line` represents the
-- unfinished line
pub record KeepsRest (line waiting given : List ℕ) (lines : List (List ℕ)) : Type 0 where
  pub read : List ℕ
  pub rest : List ℕ
  pub whole : given ≡ read ++ waiting
  pub cut : Cuts read lines rest
  pub held : IsHeldAs line rest
