-- The content of a line.
use Rattle.std.specs.Prelude.{◌==◌, ℕ, List, Option, None, Some, Result, Err, length, nat_lt, if◌then◌else◌}
use Rattle.std.specs.Io.BufRead.{strip_last}
use Rattle.sq_text.specs.declared.faults.LineFault.{LineFault}
use Rattle.sq_text.specs.declared.faults.LineFault.TheVariants.{LongLine}
use Rattle.sq_log.specs.Lines.{carriage_return, line_limit}
use Rattle.sq_log.specs.declared.lines.Line.{Line}
use Rattle.sq_log.specs.declared.lines.Line.TheVariants as lines

-- too many bytes, nothing, or a text
pub data Content : Type 0 where
  Long : Content
  Empty : Content
  Text : (text : List ℕ) → Content

-- nothing, or a text
abbrev pub text_or_empty : List ℕ → Content
text_or_empty text = if length text == 0 then Empty else Text text

-- one carriage return at the end is dropped; only the length counts it
unfoldable pub content : List ℕ → Content
content line =
    if nat_lt line_limit (length line) then Long else text_or_empty (strip_last carriage_return line)

-- the content that a value of the code represents
abbrev pub content_by : Line → Content
content_by lines.Long = Long
content_by lines.Empty = Empty
content_by (lines.Text text) = Text text.now

-- the answer to a line: no answer if it is empty, otherwise the result or the error
abbrev pub Answer : Type 0 → Type 0
Answer Found = Option (Result Found LineFault)

-- the answer to a line's content, if its text is read in this way
abbrev pub answer_content : {Found : Type 0} → (List ℕ → Result Found LineFault) → Content → Answer Found
answer_content read Long = Some (Err LongLine)
answer_content read Empty = None
answer_content read (Text text) = Some (read text)

-- the answer to a line, if its text is read in this way
abbrev pub answer_by : {Found : Type 0} → (List ℕ → Result Found LineFault) → List ℕ → Answer Found
answer_by read line = answer_content read (content line)
