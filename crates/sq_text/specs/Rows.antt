-- A row of named values on a line: a record of CSV (RFC 4180, section 2), or an object of JSON (RFC 8259, section 4).
use Rattle.std.specs.Prelude.{ℕ, ◌+◌, ◌++◌, List, [], ◌∷◌, codes, decimal, length}
use Rattle.sq_text.specs.declared.rows.Form.{Form}
use Rattle.sq_text.specs.declared.rows.Form.TheVariants.{Csv, Json}

-- a value: empty, the digits of a number, or a word without commas, quotes and backslashes
pub data Cell : Type 0 where
  Blank : Cell
  Number : (digits : List ℕ) → Cell
  Word : (letters : List ℕ) → Cell

-- the text of an empty value
abbrev pub no_value : Form → List ℕ
no_value Csv = []
no_value Json = codes "null"

-- the quote at both ends of a word
abbrev pub quote : Form → List ℕ
quote Csv = []
quote Json = codes "\""

-- the text of a value
abbrev pub value_text : Form → Cell → List ℕ
value_text form Blank = no_value form
value_text form (Number digits) = digits
value_text form (Word letters) = quote form ++ letters ++ quote form

-- the text between a value and the one before it: JSON names each member; CSV names its columns in the header
abbrev pub between : Form → List ℕ → List ℕ
between Csv name = codes ","
between Json name = codes ",\"" ++ name ++ codes "\":"

-- the text of a value that follows others, with its name
unfoldable pub cell : Form → List ℕ → Cell → List ℕ
cell form name value = between form name ++ value_text form value

-- the start of a row, before the number of its line
abbrev pub row_start : Form → List ℕ
row_start Csv = []
row_start Json = codes "{\"line\":"

-- the start of a row with the number of its line
unfoldable pub line_number : Form → ℕ → List ℕ
line_number form number = row_start form ++ decimal number

-- the end of a row
abbrev pub row_end : Form → List ℕ
row_end Csv = codes "\n"
row_end Json = codes "}\n"

-- ---- the widths of values

-- A width is the greatest number of bytes of a value beside its name. Quotes, commas and colons count, and so do its
-- digits or letters.

-- an empty value
abbrev pub blank_width : ℕ
blank_width = 8

-- a number of 64 bits
abbrev pub number_width : ℕ
number_width = 24

-- a number of 32 bits with its sign
abbrev pub signed_width : ℕ
signed_width = 15

-- degrees with seven decimals
abbrev pub degrees_width : ℕ
degrees_width = 16

-- a word of at most `letters` letters
abbrev pub word_width : ℕ → ℕ
word_width letters = letters + 6

-- the text of an error
abbrev pub fault_width : ℕ
fault_width = word_width 32

-- the number of a line, with the start of the row
abbrev pub line_width : ℕ
line_width = 28

-- the end of a row
abbrev pub end_width : ℕ
end_width = 2

-- ---- the columns of a table

-- a column: its name, the width of its widest value, and the value in each row
pub record Column (Row : Type 0) : Type 0 where
  pub name : List ℕ
  pub width : ℕ
  pub value : Row → Cell

abbrev pub column : {Row : Type 0} → List ℕ → ℕ → (Row → Cell) → Column Row
column name width value = record { name = name; width = width; value = value }

-- the text of these columns in a row
abbrev pub cells : {Row : Type 0} → Form → List (Column Row) → Row → List ℕ
cells form [] row = []
cells form (column ∷ columns) row = cell form column.name (column.value row) ++ cells form columns row

-- the room that these columns take in any row
abbrev pub room : {Row : Type 0} → List (Column Row) → ℕ
room [] = 0
room (column ∷ columns) = length column.name + column.width + room columns

-- the room that a whole row takes
abbrev pub row_room : {Row : Type 0} → List (Column Row) → ℕ
row_room columns = line_width + room columns + end_width

-- a whole row: the number of its line, and then each column
abbrev pub row_text : {Row : Type 0} → Form → List (Column Row) → ℕ → Row → List ℕ
row_text form columns number row = line_number form number ++ cells form columns row ++ row_end form

-- the names of these columns, each after a comma, to the end of the line
abbrev pub names_text : {Row : Type 0} → List (Column Row) → List ℕ
names_text [] = codes "\n"
names_text (column ∷ columns) = codes "," ++ column.name ++ names_text columns

-- the text before the first row: the names of the columns in CSV, and nothing in JSON
abbrev pub header_text : {Row : Type 0} → Form → List (Column Row) → List ℕ
header_text Csv columns = codes "line" ++ names_text columns
header_text Json columns = []
