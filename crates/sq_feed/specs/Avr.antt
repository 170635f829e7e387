-- The items of AVR text.
--
-- A text is a list of words between edges. An edge is a mark, a semicolon, or the end of a line (CR, LF, or a
-- byte of a byte order mark). A frame
-- is a word of hexadecimal digits of either case, between a mark and a semicolon, or on a line of its own. After `*`
-- and `:`, and on a line of its own, all digits are the frame's. After `@` and `%`, twelve digits of the clock come
-- before them; after `<`, these and two of the signal strength. A frame has 4, 14 or 28 digits. Any other word that
-- is not empty is damage, and so are a mark without a frame and a semicolon without a mark.
use Rattle.std.specs.Prelude.{◌≡◌, ◌==◌, ◌<◌, ◌≤◌, ◌++◌, ◌+◌, ◌*◌, ◌||◌, ◌&&◌, ℕ, Bool, true, false, List, [], ◌∷◌, length, take, drop}
use Rattle.std.specs.Prelude.{Option, Some, None, if◌then◌else◌}
use Rattle.std.specs.Int.Digits.{number_from_digits}
pub use Rattle.sq_digits.specs.HexDigits.{AreHex, byte_at, bytes_of, is_hex}
use Rattle.sq_feed.specs.declared.avr.Mark.{Mark}
use Rattle.sq_feed.specs.declared.avr.Mark.TheVariants.{Plain, Clocked, Signalled}
use Rattle.sq_feed.specs.declared.avr.Edge.{Edge}
use Rattle.sq_feed.specs.declared.avr.Edge.TheVariants.{Opening, Closing, LineEnd}
use Rattle.sq_feed.specs.declared.message.Found.{Found}
use Rattle.sq_feed.specs.declared.message.Found.TheVariants.{Whole, Damage}
use Rattle.sq_feed.specs.declared.message.Message.{Message}
use Rattle.sq_feed.specs.declared.message.Time.{Time}
use Rattle.sq_feed.specs.declared.message.Time.TheVariants.{Unknown, Ticks}
use Rattle.sq_feed.specs.declared.message.RawFrame.{RawFrame}
use Rattle.sq_feed.specs.declared.message.Size.{Size}
use Rattle.sq_feed.specs.declared.message.Size.TheVariants.{TwoBytes, SevenBytes, FourteenBytes}
use Rattle.sq_feed.specs.Follows.{Follows}
use Rattle.sq_feed.specs.Kinds.{frame_len, frame_of}

-- ---- frames

abbrev pub are_hex : List ℕ → Bool
are_hex [] = true
are_hex (byte ∷ more) = is_hex byte && are_hex more

-- the bytes before the frame: six of the clock, one of the signal strength
abbrev pub lead : Mark → ℕ
lead Plain = 0
lead Clocked = 6
lead Signalled = 7

-- the size of the frame with this many digits after a mark
abbrev pub size_of : Mark → ℕ → Option Size
size_of mark digits =
    if digits == 2 * (lead mark + 2) then Some TwoBytes
    else (if digits == 2 * (lead mark + 7) then Some SevenBytes
    else (if digits == 2 * (lead mark + 14) then Some FourteenBytes else None))

-- the time that the bytes before the frame state
abbrev pub clock_of : Mark → List ℕ → Time
clock_of Plain bytes = Unknown
clock_of Clocked bytes = Ticks (number_from_digits 256 (take 6 bytes))
clock_of Signalled bytes = Ticks (number_from_digits 256 (take 6 bytes))

abbrev pub avr_message : Mark → Size → List ℕ → Message
avr_message mark size bytes = record {
  time = clock_of mark bytes;
  frame = frame_of size (take (frame_len size) (drop (lead mark) bytes));
}

abbrev pub whole_or_damage : Mark → Option Size → List ℕ → Found
whole_or_damage mark (Some size) digits = Whole (avr_message mark size (bytes_of digits))
whole_or_damage mark None digits = Damage

-- the size of the frame that a word encodes, if it encodes one
abbrev pub word_size : Mark → List ℕ → Option Size
word_size mark word = if are_hex word then size_of mark (length word) else None

-- the item of a word after a mark
abbrev pub item_of : Mark → List ℕ → Found
item_of mark word = whole_or_damage mark (word_size mark word) word

abbrev pub framed : Option Size → List ℕ → Option RawFrame
framed (Some size) digits = Some (avr_message Plain size (bytes_of digits)).frame
framed None digits = None

-- the frame that a word of digits encodes, if it encodes one
abbrev pub frame_of_word : List ℕ → Option RawFrame
frame_of_word word = framed (word_size Plain word) word

-- ---- words between edges

-- the mark of a byte: * and :, @ and %, <
abbrev pub mark_of : ℕ → Option Mark
mark_of byte =
    if byte == 42 || byte == 58 then Some Plain
    else (if byte == 64 || byte == 37 then Some Clocked else (if byte == 60 then Some Signalled else None))

abbrev pub opening : Option Mark → Option Edge
opening (Some mark) = Some (Opening mark)
opening None = None

-- CR, LF, or a byte of a byte order mark, which may begin a text
abbrev pub is_line_end : ℕ → Bool
is_line_end byte = (byte == 10) || (byte == 13) || (byte == 0xEF) || (byte == 0xBB) || (byte == 0xBF)

-- the edge of a byte: a semicolon, the end of a line, or a mark
abbrev pub edge_of : ℕ → Option Edge
edge_of byte =
    if byte == 59 then Some Closing else (if is_line_end byte then Some LineEnd else opening (mark_of byte))

-- a word that belongs to no frame
abbrev pub stray_word : List ℕ → List Found
stray_word [] = []
stray_word (byte ∷ more) = Damage ∷ []

-- a line without a mark: nothing, or a frame of its own
abbrev pub bare : List ℕ → List Found
bare [] = []
bare (byte ∷ more) = item_of Plain (byte ∷ more) ∷ []

-- the items of a word, by the mark before it, if there is one, and the edge after it
abbrev pub items_at : Option Mark → List ℕ → Edge → List Found
items_at (Some mark) word Closing = item_of mark word ∷ []
items_at (Some mark) word LineEnd = Damage ∷ []
items_at (Some mark) word (Opening next) = Damage ∷ []
items_at None word Closing = Damage ∷ []
items_at None word LineEnd = bare word
items_at None word (Opening next) = stray_word word

-- the items of the last word of a text
abbrev pub items_at_end : Option Mark → List ℕ → List Found
items_at_end (Some mark) word = Damage ∷ []
items_at_end None word = bare word

-- ---- a text, byte by byte

-- the items that a byte ends, if it is an edge
abbrev pub items_before : Option Mark → List ℕ → Option Edge → List Found
items_before opener word (Some edge) = items_at opener word edge
items_before opener word None = []

-- the mark before the word that an edge begins
abbrev pub opened_by : Edge → Option Mark
opened_by (Opening mark) = Some mark
opened_by Closing = None
opened_by LineEnd = None

-- the mark before the word that goes on after a byte
abbrev pub opener_after : Option Mark → Option Edge → Option Mark
opener_after opener (Some edge) = opened_by edge
opener_after opener None = opener

-- the word so far after a byte
abbrev pub word_after : List ℕ → ℕ → Option Edge → List ℕ
word_after word byte (Some edge) = []
word_after word byte None = word ++ byte ∷ []

-- the items of the text to come, after a mark, if there is one, and a word so far
abbrev pub avr_from : Option Mark → List ℕ → List ℕ → List Found
avr_from opener word [] = items_at_end opener word
avr_from opener word (byte ∷ more) =
    items_before opener word (edge_of byte)
    ++ avr_from (opener_after opener (edge_of byte)) (word_after word byte (edge_of byte)) more

-- the items of a whole text
abbrev pub avr_found : List ℕ → List Found
avr_found text = avr_from None [] text

-- The first `whole.1` bytes of a text are the message `whole.0`.
abbrev pub IsWholeWord : List ℕ → Message × ℕ → Type 0
IsWholeWord text whole = (0 < whole.1) × (whole.1 ≤ length text)
    × Follows avr_found (take whole.1 text) (Whole whole.0 ∷ []) avr_found

-- ---- what is begun

-- The mark before the word so far, if there is one; its digits; and whether it cannot be a frame, because it has
-- another byte or too many digits.
pub record BegunWord : Type 0 where
  pub opener : Option Mark
  pub digits : List ℕ
  pub is_bad : Bool

abbrev pub no_word_begun : BegunWord
no_word_begun = record { opener = None; digits = []; is_bad = false }

-- The word so far. If it is bad, a point is appended, which makes it invalid.
abbrev pub word_of : List ℕ → Bool → List ℕ
word_of digits is_bad = digits ++ (if is_bad then 46 ∷ [] else [])

-- the items of the text to come, by what is begun
abbrev pub avr_to_come : BegunWord → List ℕ → List Found
avr_to_come begun more = avr_from begun.opener (word_of begun.digits begun.is_bad) more

-- the items if the text is lost here: damage, if anything is begun
abbrev pub cut_word : BegunWord → List Found
cut_word begun = items_at begun.opener (word_of begun.digits begun.is_bad) (Opening Plain)

-- ---- laws

-- a frame to write: the byte of its mark, its size and its digits
pub record AvrSent : Type 0 where
  pub mark : Mark
  pub size : Size
  pub first : ℕ
  pub digits : List ℕ

pub record IsSent (sent : AvrSent) : Type 0 where
  pub is_mark : mark_of sent.first ≡ Some sent.mark
  pub hex : AreHex sent.digits
  pub full : length sent.digits ≡ 2 * (lead sent.mark + frame_len sent.size)

-- the mark, the digits, and a semicolon
abbrev pub sent_text : AvrSent → List ℕ
sent_text sent = sent.first ∷ sent.digits ++ 59 ∷ []

abbrev pub sent_item : AvrSent → Found
sent_item sent = Whole (avr_message sent.mark sent.size (bytes_of sent.digits))

-- A written frame is found after any beginning, after any text and before any text.
abbrev pub SentFrameIsFound : Type 0
SentFrameIsFound = (opener : Option Mark) (word front : List ℕ) (sent : AvrSent) → IsSent sent
    → (before : List Found) × Follows (avr_from opener word) (front ++ sent_text sent) (before
    ++ sent_item sent ∷ []) avr_found

-- A frame on a line of its own is found, whatever follows.
abbrev pub BareFrameIsFound : Type 0
BareFrameIsFound = (size : Size) (digits : List ℕ) → AreHex digits → length digits ≡ 2 * frame_len size
    → Follows avr_found (digits ++ 10 ∷ []) (Whole (avr_message Plain size (bytes_of digits)) ∷ []) avr_found
