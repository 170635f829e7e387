-- Tables that are not read, and why.
--
-- A table that is read has commas between its columns. Its first row names a column with the time and the column
-- rawmsg; without such a row, the first column has the time in seconds, and the third one the frame.
use Rattle.std.specs.Prelude.{◌==◌, ◌++◌, ◌+◌, ◌||◌, ◌&&◌, ℕ, Bool, true, false, not, List, [], ◌∷◌, drop, length, codes}
use Rattle.std.specs.Prelude.{Option, Some, None, nat_le, nat_lt, if◌then◌else◌}
use Rattle.sq_feed.specs.declared.message.Stranger.{Stranger}
use Rattle.sq_feed.specs.declared.message.Stranger.TheVariants.{Semicolons, Tabs, NoTime, NoRawmsg, NoSeconds, NoNames}
use Rattle.sq_feed.specs.declared.message.RawFrame.{RawFrame}
use Rattle.sq_feed.specs.Avr.{frame_of_word}
use Rattle.sq_feed.specs.Cells.{cell_of, column_of, content_of, is_named, position_of}
use Rattle.sq_feed.specs.Kinds.{is_mode_s}
use Rattle.sq_feed.specs.Rows.{frame_in, longest, time_column}

-- ---- rows with any separator

abbrev pub holds_mode_s : Option RawFrame → Bool
holds_mode_s None = false
holds_mode_s (Some frame) = is_mode_s frame

-- a cell with a frame of Mode S, or with the name of its column
abbrev pub is_frame_cell : List ℕ → Bool
is_frame_cell cell = is_named (codes "rawmsg") cell || holds_mode_s (frame_of_word (content_of cell))

-- some cell of the rest of a row is such a cell, after a cell so far; this byte separates cells
abbrev pub frame_cell_from : ℕ → List ℕ → List ℕ → Bool
frame_cell_from separator cell [] = is_frame_cell cell
frame_cell_from separator cell (byte ∷ more) =
    if byte == separator then is_frame_cell cell || frame_cell_from separator [] more
    else frame_cell_from separator (cell ++ byte ∷ []) more

-- a row with this byte between its columns, and a frame in one of them
abbrev pub is_row_of : ℕ → List ℕ → Bool
is_row_of separator row =
    nat_lt (position_of separator row) (length row) && frame_cell_from separator [] row

-- a row with this byte between its columns, and a frame behind the first of them
abbrev pub is_row_behind : ℕ → List ℕ → Bool
is_row_behind separator row = nat_lt (position_of separator row) (length row)
    && frame_cell_from separator [] (drop (position_of separator row + 1) row)

-- ---- rows with commas

abbrev pub has_column : Option ℕ → Bool
has_column (Some k) = true
has_column None = false

-- a row that names a column rawmsg, and no time
abbrev pub lacks_time : List ℕ → Bool
lacks_time row = has_column (column_of (codes "rawmsg") row) && not (has_column (time_column row))

-- a row that names a time and addresses, and no column rawmsg
abbrev pub lacks_rawmsg : List ℕ → Bool
lacks_rawmsg row =
    has_column (time_column row) && has_column (column_of (codes "icao24") row)
    && not (has_column (column_of (codes "rawmsg") row))

-- a row with a frame in its third cell, which can be read only if its first one has seconds
abbrev pub has_third_frame : List ℕ → Bool
has_third_frame row = holds_mode_s (frame_in (cell_of 2 (Some row)))

-- ---- why a table is not read

abbrev pub unread_row : List ℕ → Option Stranger
unread_row row =
    if is_row_of 59 row then Some Semicolons
    else (if is_row_of 9 row then Some Tabs
    else (if lacks_time row then Some NoTime
    else (if lacks_rawmsg row then Some NoRawmsg
    else (if has_third_frame row then Some NoSeconds
    else (if is_row_of 44 row then Some NoNames else None)))))

-- why a table with this row is not read, if that is known and the row is not too long
abbrev pub unread_table : List ℕ → Option Stranger
unread_table row = if nat_le (length row) longest then unread_row row else None
