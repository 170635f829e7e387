-- The value of a text buffer in contracts.
use Rattle.std.specs.Prelude.{ℕ, List, length}

-- the bytes of the text, and the unused bytes behind it, which no clause mentions
pub record TextBuffer : Type 0 where
  pub bytes : List ℕ
  pub spare : List ℕ

-- the length of the text in bytes
abbrev pub text_len : TextBuffer → ℕ
text_len s = length s.bytes
