-- The window of a log machine.
use Rattle.std.specs.Prelude.{◌≡◌, ◌-◌, ◌<◌, ◌++◌, ℕ, List, drop, length, take}
use Rattle.std.specs.List.{before_first, position_or_len}
use Rattle.sq_log.specs.Lines.{is_feed}

-- the bytes from one index up to another
abbrev pub between : ℕ → ℕ → List ℕ → List ℕ
between begin end bytes = take (end - begin) (drop begin bytes)

-- the end of the input so far
pub record Rest : Type 0 where
  -- the unfinished line, as far as it was looked at, or another one that is too long
  pub line : List ℕ
  -- the bytes that were not yet looked at
  pub waiting : List ℕ

-- the index of the first line feed among the bytes
abbrev pub feed_place : List ℕ → ℕ
feed_place bytes = position_or_len is_feed bytes

-- the first line feed among the bytes is at this index
pub record IsFeedPlace (bytes : List ℕ) (place : ℕ) : Type 0 where
  pub first : place ≡ feed_place bytes
  pub there : place < length bytes

-- the line that is begun, up to the first line feed that waits
abbrev pub next_line : Rest → List ℕ
next_line rest = rest.line ++ before_first is_feed rest.waiting
