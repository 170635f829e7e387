-- The formats of the answers of `check` and `track`.
use Rattle.std.specs.Prelude.{◌≡◌, ◌+◌, ◌≤◌, ◌++◌, ℕ, List, [], Option, None, Some, Result, Ok, Err, codes, decimal}
use Rattle.sq_angle.specs.Decimal.{DecimalWriter}
use Rattle.sq_digits.specs.Buffer.{TextBuffer, text_len}
use Rattle.sq_text.specs.declared.faults.LineFault.{LineFault}
use Rattle.sq_text.specs.Faults.{fault_text}
use Rattle.sq_log.specs.Content.{Answer}
use Rattle.sq_log.specs.Answers.{texts_of}
use Rattle.sq_text.specs.declared.rows.Form.{Form}
use Rattle.sq_text.specs.declared.rows.Form.TheVariants.{Csv, Json}
use Rattle.sq_text.specs.Altitudes.{AltitudeReader}
use Rattle.sq_text.specs.Rows.{Column, header_text, room, row_text}
use Rattle.sq_commands.specs.declared.formats.Format.{Format}
use Rattle.sq_commands.specs.declared.formats.Format.TheVariants.{Lines, Rows}

-- the word that names a format
abbrev pub format_name : Format → List ℕ
format_name Lines = codes "lines"
format_name (Rows Csv) = codes "csv"
format_name (Rows Json) = codes "json"

-- the number of a format in the library
abbrev pub format_number : Format → ℕ
format_number Lines = 0
format_number (Rows Csv) = 1
format_number (Rows Json) = 2

-- a format by its name; lines if none is given
abbrev pub IsFormatWord : Option (List ℕ) → Format → Type 0
IsFormatWord None format = format ≡ Lines
IsFormatWord (Some word) format = word ≡ format_name format

-- how places and altitudes are written; there is one way for each
pub record Writers : Type 0 where
  pub decimals : DecimalWriter
  pub altitudes : AltitudeReader

-- how the answers of a command are written: the text before the first one, and the text of a verdict on the line with a
-- number
pub record Telling (Found : Type 0) : Type 0 where
  pub header : List ℕ
  pub text : Writers → ℕ → Result Found LineFault → List ℕ

-- the header and the text of these answers, numbered from 1
abbrev pub told_by : {Found : Type 0} → Telling Found → Writers → List (Answer Found) → List ℕ
told_by telling writers answers = telling.header ++ texts_of (telling.text writers) answers

-- the result in words, or the fault
abbrev pub verdict_text : {Found : Type 0} → (Found → List ℕ) → Result Found LineFault → List ℕ
verdict_text words (Ok found) = words found
verdict_text words (Err fault) = fault_text fault

-- a line for each answer: the line's number, and the result in words or the fault
abbrev pub in_lines : {Found : Type 0} → (Writers → Found → List ℕ) → Telling Found
in_lines words = record {
  header = [];
  text = λ writers number verdict. decimal number ++ codes " " ++ verdict_text (words writers) verdict ++ codes "\n";
}

-- a row for each answer, and CSV's header: both have these columns
abbrev pub in_rows : {Found Row : Type 0} → Form → List (Column Row) → (Writers → Result Found LineFault → Row)
    → Telling Found
in_rows form columns row_of = record {
  header = header_text form columns;
  text = λ writers number verdict. row_text form columns number (row_of writers verdict);
}

-- these columns fit behind this text in 512 bytes, the size of a line's text
abbrev pub HasRoom : {Row : Type 0} → TextBuffer → List (Column Row) → Type 0
HasRoom text columns = text_len text + room columns ≤ 512
