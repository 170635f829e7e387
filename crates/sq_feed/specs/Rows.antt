-- The items of a log and of a CSV table: one a line.
use Rattle.std.specs.Prelude.{◌≡◌, ◌≢◌, ◌⊎◌, ◌==◌, ◌++◌, ◌+◌, ◌-◌, ◌&&◌, ◌≤◌, ℕ, Bool, true, false, List, [], ◌∷◌, length, take, drop, codes}
use Rattle.std.specs.Prelude.{Option, Some, None, bytes_eq, nat_lt, slice_index, if◌then◌else◌}
use Rattle.std.specs.List.{AllByRecursion}
use Rattle.sq_feed.specs.declared.message.Found.{Found}
use Rattle.sq_feed.specs.declared.message.Found.TheVariants.{Whole, Damage}
use Rattle.sq_feed.specs.declared.message.Message.{Message}
use Rattle.sq_feed.specs.declared.message.RawFrame.{RawFrame}
use Rattle.sq_feed.specs.declared.message.Time.TheVariants.{Millis}
use Rattle.sq_feed.specs.declared.rows.Columns.{Columns}
use Rattle.sq_feed.specs.declared.rows.Layout.{Layout}
use Rattle.sq_feed.specs.declared.rows.Layout.TheVariants.{Log, Csv}
use Rattle.sq_feed.specs.declared.rows.Row.{Row}
use Rattle.sq_feed.specs.declared.rows.Row.TheVariants.{Blank, Names, One}
use Rattle.sq_feed.specs.Avr.{frame_of_word}
use Rattle.sq_feed.specs.Cells.{cell_of, column_of, content_of, millis_of, number_of, position_of}

-- the maximum length of a line in bytes, including a carriage return
abbrev pub longest : ℕ
longest = 512

-- ---- a line

abbrev pub last_is : ℕ → List ℕ → Bool
last_is byte text = nat_lt 0 (length text) && (slice_index text (length text - 1) == byte)

-- a text without a last byte of this value
abbrev pub without_last : ℕ → List ℕ → List ℕ
without_last byte text = if last_is byte text then take (length text - 1) text else text

-- a text without a first byte of this value
abbrev pub first_is : ℕ → List ℕ → Bool
first_is byte text = nat_lt 0 (length text) && (slice_index text 0 == byte)

abbrev pub without_first : ℕ → List ℕ → List ℕ
without_first byte text = if first_is byte text then drop 1 text else text

-- the byte order mark of UTF-8
abbrev pub byte_order_mark : List ℕ
byte_order_mark = 0xEF ∷ 0xBB ∷ 0xBF ∷ []

-- a line without a byte order mark at its start
abbrev pub without_mark : List ℕ → List ℕ
without_mark line = if bytes_eq (take 3 line) byte_order_mark then drop 3 line else line

-- a message with its time in milliseconds, if both are valid
abbrev pub message_at : Option ℕ → Option RawFrame → Option Message
message_at None frame = None
message_at (Some moment) None = None
message_at (Some moment) (Some frame) = Some (record { time = Millis moment; frame = frame })

-- the frame of a frame text: its digits, bare or between `*` and `;`
abbrev pub frame_of_text : List ℕ → Option RawFrame
frame_of_text text =
    if first_is 42 text
    then (if last_is 59 text then frame_of_word (without_last 59 (without_first 42 text)) else None)
    else (if last_is 59 text then None else frame_of_word text)

-- A line of a log: a timestamp (ms) of 1 to 20 digits and below 2^64, a space, and a frame text.
abbrev pub log_message : List ℕ → Option Message
log_message line =
    message_at (number_of 20 (take (position_of 32 line) line))
    (frame_of_text (drop (position_of 32 line + 1) line))

abbrev pub millis_in : Option (List ℕ) → Option ℕ
millis_in (Some cell) = millis_of (content_of cell)
millis_in None = None

abbrev pub frame_in : Option (List ℕ) → Option RawFrame
frame_in (Some cell) = frame_of_word (content_of cell)
frame_in None = None

-- a row of a table: seconds in one column, and the hexadecimal digits of a frame in another
abbrev pub csv_message : Columns → List ℕ → Option Message
csv_message columns row =
    message_at (millis_in (cell_of columns.time (Some row))) (frame_in (cell_of columns.frame (Some row)))

abbrev pub first_of : Option ℕ → Option ℕ → Option ℕ
first_of (Some k) other = Some k
first_of None other = other

abbrev pub columns_at : Option ℕ → Option ℕ → Option Columns
columns_at None frame = None
columns_at (Some time) None = None
columns_at (Some time) (Some frame) = Some (record { time = time; frame = frame })

-- the column of the time: `time`, else `mintime`, else `timestamp`
abbrev pub time_column : List ℕ → Option ℕ
time_column row =
    first_of (column_of (codes "time") row) (first_of (column_of (codes "mintime") row)
    (column_of (codes "timestamp") row))

-- A row of names has a column of the time, and a cell `rawmsg`, in upper or lower case.
abbrev pub columns_of : List ℕ → Option Columns
columns_of row = columns_at (time_column row) (column_of (codes "rawmsg") row)

abbrev pub row_or_damage : Option Message → Row
row_or_damage (Some message) = One (Whole message)
row_or_damage None = One Damage

abbrev pub names_or_damage : Option Columns → Row
names_or_damage (Some columns) = Names columns
names_or_damage None = One Damage

abbrev pub row_or_names : Option Message → List ℕ → Row
row_or_names (Some message) row = One (Whole message)
row_or_names None row = names_or_damage (columns_of row)

abbrev pub text_read : Layout → List ℕ → Row
text_read Log text = row_or_damage (log_message text)
text_read (Csv columns) text = row_or_names (csv_message columns text) text

-- the content of a line of at most 512 bytes: nothing, column names, or an item
abbrev pub row_of_text : Layout → List ℕ → Row
row_of_text layout text = if length text == 0 then Blank else text_read layout text

-- The content of a line. A byte order mark at its start and a carriage return at its end are left out.
abbrev pub row_read : Layout → List ℕ → Row
row_read layout line =
    if nat_lt longest (length line) then One Damage else row_of_text layout (without_mark (without_last 13 line))

abbrev pub items_of_row : Row → List Found
items_of_row Blank = []
items_of_row (Names columns) = []
items_of_row (One item) = item ∷ []

abbrev pub layout_after : Layout → Row → Layout
layout_after layout Blank = layout
layout_after layout (Names columns) = Csv columns
layout_after layout (One item) = layout

-- ---- lines

-- The items of the rest of a text, after the start of a line. A line feed or the end of the text ends a line.
abbrev pub rows_from : Layout → List ℕ → List ℕ → List Found
rows_from layout line [] = items_of_row (row_read layout line)
rows_from layout line (byte ∷ more) =
    if byte == 10
    then items_of_row (row_read layout line) ++ rows_from (layout_after layout (row_read layout line)) [] more
    else rows_from layout (line ++ byte ∷ []) more

-- before a row of names, the time is in the first column, and the frame in the third
abbrev pub csv_start : Layout
csv_start = Csv (record { time = 0; frame = 2 })

-- A line feed, or a carriage return and a line feed, at this index: `count` bytes.
abbrev pub IsLineEnd : (text : List ℕ) → (at count : ℕ) → Type 0
IsLineEnd text at count =
    ((count ≡ 1) × (slice_index text at ≡ 10))
    ⊎ ((count ≡ 2) × (slice_index text at ≡ 13) × (slice_index text (at + 1) ≡ 10))

-- A piece begins with a row and a line feed, `found.1` bytes in all, and the row has the message `found.0`.
pub record IsRowAt (layout : Layout) (piece : List ℕ) (found : Message × ℕ) : Type 0 where
  pub row : List ℕ
  pub fits : found.1 ≤ length piece
  pub front : take found.1 piece ≡ row ++ 10 ∷ []
  pub one_line : AllByRecursion (λ byte. byte ≢ 10) row
  pub reads : row_read layout row ≡ One (Whole found.0)

-- ---- what is begun

-- the layout, the unfinished line, and whether that line is too long
pub record BegunRow : Type 0 where
  pub layout : Layout
  pub held : List ℕ
  pub is_long : Bool

abbrev pub no_row_begun : Layout → BegunRow
no_row_begun layout = record { layout = layout; held = []; is_long = false }

-- If the line is too long, its first 512 bytes are kept.
abbrev pub IsHeld : BegunRow → Type 0
IsHeld begun = begun.is_long ≡ true → longest ≤ length begun.held

-- A line that reads the same as the unfinished line. One more byte than are kept makes it too long.
abbrev pub line_of : List ℕ → Bool → List ℕ
line_of held is_long = held ++ (if is_long then 0 ∷ [] else [])

-- the items of the rest of a text, after the unfinished line
abbrev pub rows_to_come : BegunRow → List ℕ → List Found
rows_to_come begun more = rows_from begun.layout (line_of begun.held begun.is_long) more

-- damage, if the connection is lost within a line
abbrev pub cut_row : BegunRow → List Found
cut_row begun = if length (line_of begun.held begun.is_long) == 0 then [] else Damage ∷ []

-- ---- laws

-- A line's items depend on that line alone, and not on the text after it.
abbrev pub LineIsRead : Type 0
LineIsRead = (layout : Layout) (line more : List ℕ) → AllByRecursion (λ byte. byte ≢ 10) line
    → rows_from layout [] (line ++ 10 ∷ more)
    ≡ items_of_row (row_read layout line) ++ rows_from (layout_after layout (row_read layout line)) [] more
