-- A source shows its format by its first bytes.
--
-- A start of a Beast message in the first two bytes shows Beast. Otherwise the bytes are read as Beast and as lines of
-- text at the same time: two Beast messages in a row show Beast, and the first line that can be read shows a text. A
-- log is tried first, then a table. Two lines that are none of these, but have a frame if they are read as AVR text,
-- show AVR text: the frame may have a carriage return, spaces or any other text before it. One such line does, if it
-- is a frame alone, or if no byte shows another format. A marked frame at the start of a line shows AVR text at its
-- semicolon. All bytes of the source are then read in that format, from the first one on.
--
-- Archives, other kinds of text and tables that are not read are remembered, and named only if nothing shows a format
-- within the first 16,384 bytes, or up to the end of a shorter source: no sign of another kind outweighs a frame. All
-- bytes of such a source are one item, which says what the source is.
use Rattle.std.specs.Prelude.{◌≡◌, ◌==◌, ◌++◌, ◌+◌, ◌||◌, ◌&&◌, ℕ, Bool, true, false, not, List, [], ◌∷◌, length, take, drop}
use Rattle.std.specs.Prelude.{Option, Some, None, bytes_eq, codes, nat_le, nat_lt, slice_index, if◌then◌else◌}
use Rattle.sq_feed.specs.declared.signs.Sign.{Sign}
use Rattle.sq_feed.specs.declared.signs.Sign.TheVariants.{Unclear, Shows, Other}
use Rattle.sq_feed.specs.declared.message.Stranger.{Stranger}
use Rattle.sq_feed.specs.declared.message.Stranger.TheVariants.{Sbs, Tar, Packed, Utf16, Json, NoFrame}
use Rattle.sq_feed.specs.declared.machine.Format.{Format}
use Rattle.sq_feed.specs.declared.machine.Format.TheVariants.{Beast, Avr, Csv, Log}
use Rattle.sq_feed.specs.declared.message.Found.{Found}
use Rattle.sq_feed.specs.declared.message.Found.TheVariants.{Whole, Damage, ReceiverId, Foreign}
use Rattle.sq_feed.specs.declared.message.Kind.{Kind}
use Rattle.sq_feed.specs.declared.message.Kind.TheVariants.{Message as MessageKind, Status, ReceiverId as IdKind, Unknown as UnknownKind}
use Rattle.sq_feed.specs.declared.message.RawFrame.TheVariants.{ModeAc}
use Rattle.sq_feed.specs.declared.message.Time.TheVariants.{Millis, Unknown}
use Rattle.sq_feed.specs.declared.avr.Mark.{Mark}
use Rattle.sq_feed.specs.declared.rows.Layout.TheVariants.{Log as LogLayout}
use Rattle.sq_feed.specs.declared.rows.Row.{Row}
use Rattle.sq_feed.specs.declared.rows.Row.TheVariants.{Blank, Names, One}
use Rattle.sq_feed.specs.Avr.{avr_found, frame_of_word, item_of, mark_of}
use Rattle.sq_feed.specs.Begun.{Begun, nothing_begun, rest_of}
use Rattle.sq_feed.specs.Kinds.{is_mode_s, kind_of}
use Rattle.sq_feed.specs.Rows.{csv_start, row_read, rows_from, without_last, without_mark}
use Rattle.sq_feed.specs.Stream.{escape, found_in}
use Rattle.sq_feed.specs.Tables.{holds_mode_s, is_row_behind, unread_table}

-- ---- messages in a row

-- the number of messages since the last damage, up to two
abbrev pub in_turn_after : ℕ → Found → ℕ
in_turn_after count (Whole message) = if nat_lt count 2 then count + 1 else count
in_turn_after count ReceiverId = count
in_turn_after count Damage = 0
in_turn_after count (Foreign stranger) = 0

abbrev pub in_turn : ℕ → List Found → ℕ
in_turn count [] = count
in_turn count (item ∷ more) = in_turn (in_turn_after count item) more

-- two messages in a row show Beast
abbrev pub is_beast : ℕ → Bool
is_beast count = nat_le 2 count

-- ---- a line

-- the first sign that shows a format, or the other one
abbrev pub first_shown : Sign → Sign → Sign
first_shown Unclear other = other
first_shown (Shows format) other = Shows format
first_shown (Other stranger) other = other

-- a marked frame at the start of a line, by the line before its semicolon
abbrev pub sign_of_item : Found → Sign
sign_of_item (Whole message) = Shows Avr
sign_of_item Damage = Unclear
sign_of_item ReceiverId = Unclear
sign_of_item (Foreign stranger) = Unclear

abbrev pub sign_by_mark : Option Mark → List ℕ → Sign
sign_by_mark (Some mark) word = sign_of_item (item_of mark word)
sign_by_mark None word = Unclear

abbrev pub sign_of_word : List ℕ → Sign
sign_of_word [] = Unclear
sign_of_word (first ∷ word) = sign_by_mark (mark_of first) word

abbrev pub marked_sign : List ℕ → Sign
marked_sign line = sign_of_word (without_mark line)

-- a line of a log
abbrev pub sign_of_line : Row → Sign
sign_of_line (One (Whole message)) = Shows Log
sign_of_line (One Damage) = Unclear
sign_of_line (One ReceiverId) = Unclear
sign_of_line (One (Foreign stranger)) = Unclear
sign_of_line Blank = Unclear
sign_of_line (Names columns) = Unclear

-- a row of a table, or its names
abbrev pub sign_of_row : Row → Sign
sign_of_row (One (Whole message)) = Shows Csv
sign_of_row (One Damage) = Unclear
sign_of_row (One ReceiverId) = Unclear
sign_of_row (One (Foreign stranger)) = Unclear
sign_of_row Blank = Unclear
sign_of_row (Names columns) = Shows Csv

-- a message with a frame of Mode S
abbrev pub is_framed : Found → Bool
is_framed (Whole message) = is_mode_s message.frame
is_framed Damage = false
is_framed ReceiverId = false
is_framed (Foreign stranger) = false

abbrev pub has_frame : List Found → Bool
has_frame [] = false
has_frame (item ∷ more) = is_framed item || has_frame more

-- A line that has a frame anywhere, if it is read as AVR text. A row with semicolons between its columns and a frame
-- behind the first one is none: AVR text would read its last column, without its time.
abbrev pub is_framed_line : List ℕ → Bool
is_framed_line line = not (is_row_behind 59 line) && has_frame (avr_found line)

-- a line that is a frame, without a mark or a time
abbrev pub is_bare_line : List ℕ → Bool
is_bare_line line = holds_mode_s (frame_of_word (without_last 13 (without_mark line)))

-- A bare frame shows AVR text, and so does the second line with a frame. The first may be a damaged line of a log.
abbrev pub text_sign : (is_framed : Bool) → List ℕ → Sign
text_sign is_framed line = if is_framed_line line && (is_framed || is_bare_line line) then Shows Avr else Unclear

-- a line of SBS (BaseStation) text
abbrev pub is_sbs : List ℕ → Bool
is_sbs line =
    bytes_eq (take 4 line) (codes "MSG,") || bytes_eq (take 4 line) (codes "SEL,") || bytes_eq (take 3 line) (codes "ID,")
    || bytes_eq (take 4 line) (codes "AIR,") || bytes_eq (take 4 line) (codes "STA,")
    || bytes_eq (take 4 line) (codes "CLK,")

-- a line of another kind of text, or of a table that is not read
abbrev pub told_sign : Option Stranger → Sign
told_sign (Some stranger) = Other stranger
told_sign None = Unclear

abbrev pub other_sign : List ℕ → Sign
other_sign line =
    if is_sbs line then Other Sbs
    else (if bytes_eq (take 1 line) (codes "{") then Other Json else told_sign (unread_table line))

-- the sign of a whole line, without its line feed; an earlier line has a frame, or none has
unfoldable pub line_sign : (is_framed : Bool) → List ℕ → Sign
line_sign is_framed line =
    first_shown (sign_of_line (row_read LogLayout line)) (first_shown (sign_of_row (row_read csv_start line))
    (first_shown (text_sign is_framed line) (other_sign (without_mark line))))

-- ---- the first bytes

-- archives of gzip, bzip2, xz, zstd and zip
abbrev pub is_packed : List ℕ → Bool
is_packed start =
    bytes_eq start (0x1F ∷ 0x8B ∷ 8 ∷ []) || bytes_eq start (codes "BZh")
    || bytes_eq start (0xFD ∷ codes "7zXZ") || bytes_eq start (0x28 ∷ 0xB5 ∷ 0x2F ∷ 0xFD ∷ [])
    || bytes_eq start (codes "PK" ++ 3 ∷ 4 ∷ [])

-- a byte order mark of UTF-16, followed by an ASCII character
abbrev pub is_utf16 : List ℕ → Bool
is_utf16 start =
    (length start == 4) && (bytes_eq (take 2 start) (0xFF ∷ 0xFE ∷ []) && bytes_eq (drop 3 start) (0 ∷ [])
    || bytes_eq (take 3 start) (0xFE ∷ 0xFF ∷ 0 ∷ []))

-- the header of a tar archive
abbrev pub is_tar : List ℕ → Bool
is_tar start = (length start == 262) && bytes_eq (take 5 (drop 257 start)) (codes "ustar")

-- an escape and a type byte that is known
abbrev pub is_known : Kind → Bool
is_known (MessageKind size) = true
is_known Status = true
is_known IdKind = true
is_known UnknownKind = false

abbrev pub is_beast_start : List ℕ → Bool
is_beast_start start =
    (length start == 2) && (slice_index start 0 == escape) && is_known (kind_of (slice_index start 1))

unfoldable pub start_sign : List ℕ → Sign
start_sign start =
    if is_beast_start start then Shows Beast
    else (if is_packed start then Other Packed
    else (if is_utf16 start then Other Utf16 else (if is_tar start then Other Tar else Unclear)))

-- ---- the text so far

-- the unfinished line; the number of bytes; whether an earlier line has a frame, if it is read as AVR text; and the
-- first kind of source without frames that was seen
pub record Lines : Type 0 where
  pub line : List ℕ
  pub count : ℕ
  pub is_framed : Bool
  pub stranger : Option Stranger

abbrev pub no_lines : Lines
no_lines = record { line = []; count = 0; is_framed = false; stranger = None }

-- the line after a byte
abbrev pub line_after : List ℕ → ℕ → List ℕ
line_after line byte = if byte == 10 then [] else line ++ byte ∷ []

-- the sign of a byte after the text so far
abbrev pub byte_sign : Lines → ℕ → Sign
byte_sign text byte =
    if byte == 10 then line_sign text.is_framed text.line
    else (if byte == 59 then marked_sign text.line
    else (if length text.line == text.count then start_sign (text.line ++ byte ∷ []) else Unclear))

-- the first kind of source without frames
abbrev pub remembered : Option Stranger → Sign → Option Stranger
remembered (Some stranger) sign = Some stranger
remembered None (Other stranger) = Some stranger
remembered None Unclear = None
remembered None (Shows format) = None

-- a line with a frame has ended, now or before
abbrev pub framed_after : Lines → ℕ → Bool
framed_after text byte = text.is_framed || (byte == 10) && is_framed_line text.line

abbrev pub lines_after : Lines → ℕ → Lines
lines_after text byte = record {
  line = line_after text.line byte;
  count = text.count + 1;
  is_framed = framed_after text byte;
  stranger = remembered text.stranger (byte_sign text byte);
}

-- what a source without a format is
abbrev pub named : Option Stranger → Stranger
named (Some stranger) = stranger
named None = NoFrame

-- ---- the format of a source

-- the number of bytes within which a source has to show its format
abbrev pub limit : ℕ
limit = 16384

-- the sign of the unfinished line, as it is: one line with a frame is enough
abbrev pub begun_sign : Lines → Sign
begun_sign text = line_sign true text.line

-- what a source without a format is, by the sign of its last line
abbrev pub named_after : Option Stranger → Sign → Sign
named_after stranger last = Other (named (remembered stranger last))

-- what a source is that no byte shows: AVR text, if a line has a frame
abbrev pub named_text : Lines → Sign
named_text text = if text.is_framed then Shows Avr else named_after text.stranger (begun_sign text)

-- the sign of a source that ends here: its last line may lack its line feed, and one message is enough for Beast
abbrev pub last_sign : ℕ → Lines → Sign
last_sign messages text =
    first_shown (begun_sign text) (if nat_le 1 messages then Shows Beast
    else (if text.count == 0 then Unclear else named_text text))

-- the sign at the limit: the line that has begun counts as it is
abbrev pub limit_sign : Lines → Sign
limit_sign text = first_shown (begun_sign text) (named_text text)

-- the sign of a source that goes on, up to the limit
abbrev pub sign_within : Lines → Sign → Sign
sign_within text later = if text.count == limit then limit_sign text else later

-- What the bytes to come show, after the text so far. The first argument maps the bytes to come to the number of
-- messages in a row at their end, if all bytes are read as Beast.
abbrev pub shown_by : (List ℕ → ℕ) → Lines → List ℕ → Sign
shown_by beast text [] = last_sign (beast []) text
shown_by beast text (byte ∷ more) =
    if is_beast (beast (byte ∷ [])) then Shows Beast
    else first_shown (byte_sign text byte)
    (sign_within (lines_after text byte) (shown_by (λ bytes. beast (byte ∷ bytes)) (lines_after text byte) more))

-- what a whole source shows
abbrev pub shown : List ℕ → Sign
shown bytes = shown_by (λ more. in_turn 0 (found_in more)) no_lines bytes

-- ---- the items of a source

-- the items of a source of a format
abbrev pub items_from : Format → List ℕ → List Found
items_from Beast bytes = found_in bytes
items_from Avr bytes = avr_found bytes
items_from Csv bytes = rows_from csv_start [] bytes
items_from Log bytes = rows_from LogLayout [] bytes

-- the items of a source, by what it shows
abbrev pub items_shown : Sign → List ℕ → List Found
items_shown Unclear bytes = []
items_shown (Shows format) bytes = items_from format bytes
items_shown (Other stranger) bytes = Foreign stranger ∷ []

-- the items of a whole source of unknown format
abbrev pub any_found : List ℕ → List Found
any_found bytes = items_shown (shown bytes) bytes

-- ---- the state

-- the unfinished Beast message, the number of messages in a row, the text so far, and all bytes so far
pub record Finds : Type 0 where
  pub beast : Begun
  pub count : ℕ
  pub text : Lines
  pub held : List ℕ

abbrev pub nothing_seen : Finds
nothing_seen = record { beast = nothing_begun; count = 0; text = no_lines; held = [] }

-- the messages in a row at the end of these bytes, after those so far
abbrev pub beast_of : Finds → List ℕ → ℕ
beast_of finds bytes = in_turn finds.count (found_in (rest_of finds.beast ++ bytes))

-- what the source shows with these bytes to come
abbrev pub shown_after : Finds → List ℕ → Sign
shown_after finds bytes = shown_by (beast_of finds) finds.text bytes

-- the items of the source with these bytes to come
abbrev pub finds_to_come : Finds → List ℕ → List Found
finds_to_come finds bytes = items_shown (shown_after finds bytes) (finds.held ++ bytes)

-- The bytes after `old` show this, whatever follows them. If they show nothing, what the source shows is what the
-- bytes to come show after `new`.
abbrev pub HasShown : Sign → Finds → List ℕ → Finds → Type 0
HasShown Unclear old bytes new = (more : List ℕ) → shown_after old (bytes ++ more) ≡ shown_after new more
HasShown (Shows format) old bytes new = (more : List ℕ) → shown_after old (bytes ++ more) ≡ Shows format
HasShown (Other stranger) old bytes new = (more : List ℕ) → shown_after old (bytes ++ more) ≡ Other stranger

-- ---- examples

-- replies of Mode A/C with this last byte, with a timestamp (ms) and without
abbrev pub millis_item : ℕ → ℕ → Found
millis_item moment byte = Whole (record { time = Millis moment; frame = ModeAc (32 ∷ byte ∷ []) })

abbrev pub bare_item : ℕ → Found
bare_item byte = Whole (record { time = Unknown; frame = ModeAc (32 ∷ byte ∷ []) })
