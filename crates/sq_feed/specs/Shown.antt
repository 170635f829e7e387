-- A source in a known format is found without a format being given.
use Rattle.std.specs.Prelude.{◌≡◌, ◌≢◌, ◌<◌, ◌≤◌, ◌+◌, ◌++◌, true, false, ℕ, List, [], ◌∷◌, length}
use Rattle.std.specs.List.{AllByRecursion, flat_map}
use Rattle.sq_feed.specs.declared.machine.Format.{Format}
use Rattle.sq_feed.specs.declared.rows.Layout.TheVariants.{Log as LogLayout}
use Rattle.sq_feed.specs.declared.signs.Sign.TheVariants.{Shows, Unclear}
use Rattle.sq_feed.specs.Avr.{AvrSent, IsSent, avr_found, sent_text}
use Rattle.sq_feed.specs.Finding.{any_found, has_frame, is_known, items_from, limit, line_sign, marked_sign}
use Rattle.sq_feed.specs.Finding.{sign_of_line, sign_of_row}
use Rattle.sq_feed.specs.Kinds.{kind_of}
use Rattle.sq_feed.specs.Laws.{AreSent, Sent, sent_bytes, sent_messages}
use Rattle.sq_feed.specs.Rows.{csv_start, longest, row_read}
use Rattle.sq_feed.specs.Stream.{escape, found_in}
use Rattle.sq_feed.specs.Tables.{is_row_behind}

-- A source that begins with the start of a Beast message is read as Beast, whatever follows.
abbrev pub BeastIsShown : Type 0
BeastIsShown = (kind : ℕ) (more : List ℕ) → is_known (kind_of kind) ≡ true
    → any_found (escape ∷ kind ∷ more) ≡ found_in (escape ∷ kind ∷ more)

-- Messages of Beast are found, with any clocks and any frames.
abbrev pub SentBeastIsShown : Type 0
SentBeastIsShown = (first : Sent) (later : List Sent) → AreSent (first ∷ later)
    → any_found (flat_map sent_bytes (first ∷ later)) ≡ sent_messages (first ∷ later)

-- A source that begins with a marked frame is read as AVR text, whatever follows.
abbrev pub SentTextIsShown : Type 0
SentTextIsShown = (sent : AvrSent) (more : List ℕ) → IsSent sent
    → any_found (sent_text sent ++ more) ≡ avr_found (sent_text sent ++ more)

-- A line of text: it has at most 512 bytes, no line feed, no escape, and no marked frame before a semicolon.
pub record IsTextLine (line : List ℕ) : Type 0 where
  pub short : length line ≤ longest
  pub one_line : AllByRecursion (λ byte. byte ≢ 10) line
  pub plain : AllByRecursion (λ byte. byte ≢ escape) line
  pub unmarked : (front back : List ℕ) → line ≡ front ++ 59 ∷ back → marked_sign front ≡ Unclear

-- A line that only AVR text reads: it is no line of a log, no row of a table or its names, and no row with semicolons.
-- Read as AVR text, it has a frame of Mode S, with any text before it. The line is within the bytes that decide, and
-- has no line feed and no escape.
pub record IsAvrLine (line : List ℕ) : Type 0 where
  pub short : length line < limit
  pub one_line : AllByRecursion (λ byte. byte ≢ 10) line
  pub plain : AllByRecursion (λ byte. byte ≢ escape) line
  pub no_log : sign_of_line (row_read LogLayout line) ≡ Unclear
  pub no_row : sign_of_row (row_read csv_start line) ≡ Unclear
  pub no_semicolons : is_row_behind 59 line ≡ false
  pub framed : has_frame (avr_found line) ≡ true

-- A source of one such line is read as AVR text.
abbrev pub AvrLineIsShown : Type 0
AvrLineIsShown = (line : List ℕ) → IsAvrLine line → any_found (line ++ 10 ∷ []) ≡ avr_found (line ++ 10 ∷ [])

-- A source that begins with two such lines is read as AVR text, whatever follows.
abbrev pub AvrLinesAreShown : Type 0
AvrLinesAreShown = (line second more : List ℕ) → IsAvrLine line → IsAvrLine second
    → length line + length second + 1 < limit
    → any_found (line ++ 10 ∷ (second ++ 10 ∷ more)) ≡ avr_found (line ++ 10 ∷ (second ++ 10 ∷ more))

-- A source that begins with a line of a format is read in that format, whatever follows.
abbrev pub LineIsShown : Type 0
LineIsShown = (line more : List ℕ) (format : Format) → IsTextLine line
    → line_sign false line ≡ Shows format
    → any_found (line ++ 10 ∷ more) ≡ items_from format (line ++ 10 ∷ more)
