-- What is sent in a format is found in that format.
use Rattle.std.proofs.Common.{◌≡◌, ◌≢◌, ◌+◌, ◌*◌, ◌<◌, ◌≤◌, ◌++◌, ◌∙◌, ◌⊎◌, ℕ, Bool, true, false, List, [], ◌∷◌, length, map, take, drop, refl, sym, ap, ap₂, arith, subst, inl, inr}
use Rattle.std.proofs.Common.{append_assoc, append-nil, length-append}
use Rattle.std.proofs.lemmas.Bool.{eq-eqb, eqb-true, false≢true, ne_eqb, true≢false}
use Rattle.std.specs.List.{AllByRecursion, flat_map}
use Rattle.std.specs.Prelude.{◌==◌, ◌&&◌, ◌||◌, not, Option, Some, None, bytes_eq, codes, if◌then◌else◌, slice_index}
use Rattle.sq_feed.specs.declared.avr.Mark.{Mark}
use Rattle.sq_feed.specs.declared.avr.Mark.TheVariants.{Plain as PlainMark, Clocked, Signalled}
use Rattle.sq_feed.specs.declared.machine.Format.{Format}
use Rattle.sq_feed.specs.declared.machine.Format.TheVariants.{Avr, Beast}
use Rattle.sq_feed.specs.declared.message.Found.{Found}
use Rattle.sq_feed.specs.declared.message.Found.TheVariants.{Damage, Foreign, ReceiverId as IdFound, Whole}
use Rattle.sq_feed.specs.declared.message.Kind.TheVariants.{Message, Status, ReceiverId, Unknown}
use Rattle.sq_feed.specs.declared.message.Size.{Size}
use Rattle.sq_feed.specs.declared.message.Size.TheVariants.{TwoBytes, SevenBytes, FourteenBytes}
use Rattle.sq_feed.specs.declared.message.Stranger.{Stranger}
use Rattle.sq_feed.specs.declared.message.Stranger.TheVariants.{Json, Packed, Sbs, Tar, Utf16}
use Rattle.sq_feed.specs.declared.rows.Layout.TheVariants.{Log as LogLayout}
use Rattle.sq_feed.specs.declared.signs.Sign.{Sign}
use Rattle.sq_feed.specs.declared.signs.Sign.TheVariants.{Unclear, Shows, Other}
use Rattle.sq_feed.specs.Avr.{AreHex, AvrSent, IsSent, avr_found, is_hex, item_of, lead, mark_of, sent_text}
use Rattle.sq_feed.specs.Begun.{type_byte}
use Rattle.sq_feed.specs.Finding.{Lines, any_found, byte_sign, first_shown, has_frame, in_turn, is_beast, is_known}
use Rattle.sq_feed.specs.Finding.{is_packed, is_tar, is_utf16, items_shown, limit_sign, line_sign, lines_after, marked_sign}
use Rattle.sq_feed.specs.Finding.{other_sign, shown_by, sign_by_mark, sign_of_item, sign_of_line, sign_of_row, sign_of_word, sign_within}
use Rattle.sq_feed.specs.Finding.{framed_after, is_bare_line, is_framed_line, is_sbs, last_sign, limit, start_sign, text_sign, told_sign}
use Rattle.sq_feed.specs.Kinds.{frame_len, kind_of}
use Rattle.sq_feed.specs.Laws.{sent_bytes}
use Rattle.sq_feed.specs.Rows.{csv_start, row_read, without_mark}
use Rattle.sq_feed.specs.Shown.{AvrLineIsShown, AvrLinesAreShown, BeastIsShown, IsAvrLine, LineIsShown, SentBeastIsShown, SentTextIsShown}
use Rattle.sq_feed.specs.Tables.{is_row_behind, unread_table}
use Rattle.sq_feed.specs.Stream.{Byte, Symbol, doubled, escape, found_in, found_of, stray, symbols_from}
use Rattle.sq_feed.proofs.Finds.{shown_by-same}
use Rattle.sq_feed.proofs.Readings.{no_start, run_bytes}
use Rattle.sq_feed.proofs.AvrLemmas.{written_item}
use Rattle.sq_feed.proofs.Lawful.{sent_is_found}

-- ---- Beast

-- the type bytes that are known
by_kind : (P : ℕ → Type 0) (kind : ℕ) → is_known (kind_of kind) ≡ true → P 49 → P 50 → P 51 → P 52 → P 0xE3 → P kind
by_kind P kind known p q r s i =
    at (kind == 49) (kind == 50) (kind == 51) (kind == 52) (kind == 0xE3) refl refl refl refl refl known
  where
    at : (a b c d e : Bool) → (kind == 49) ≡ a → (kind == 50) ≡ b → (kind == 51) ≡ c → (kind == 52) ≡ d
        → (kind == 0xE3) ≡ e
        → is_known (if a then Message TwoBytes else (if b then Message SevenBytes
        else (if c then Message FourteenBytes else (if d then Status else (if e then ReceiverId else Unknown)))))
        ≡ true → P kind
    at true b c d e is _ _ _ _ _ = subst P (sym (eqb-true kind 49 is)) p
    at false true c d e _ is _ _ _ _ = subst P (sym (eqb-true kind 50 is)) q
    at false false true d e _ _ is _ _ _ = subst P (sym (eqb-true kind 51 is)) r
    at false false false true e _ _ _ is _ _ = subst P (sym (eqb-true kind 52 is)) s
    at false false false false true _ _ _ _ is _ = subst P (sym (eqb-true kind 0xE3 is)) i
    at false false false false false _ _ _ _ _ none = absurd (false≢true none)

pub beast_is_shown : BeastIsShown
unfolding start_sign
beast_is_shown kind more known =
    by_kind (λ k. any_found (escape ∷ k ∷ more) ≡ found_in (escape ∷ k ∷ more)) kind known refl refl refl refl refl

known_type : (size : Size) → is_known (kind_of (type_byte size)) ≡ true
known_type TwoBytes = refl
known_type SevenBytes = refl
known_type FourteenBytes = refl

pub sent_beast_is_shown : SentBeastIsShown
sent_beast_is_shown first later sent =
    beast_is_shown (type_byte first.size) (flat_map doubled first.bytes ++ flat_map sent_bytes later)
    (known_type first.size)
    ∙ sent_is_found (first ∷ later) sent

-- ---- text without an escape

abbrev Plain : List ℕ → Type 0
Plain bytes = AllByRecursion (λ byte. byte ≢ escape) bytes

plain_symbols : (bytes : List ℕ) → Plain bytes → symbols_from false bytes ≡ map Byte bytes
plain_symbols [] plain = refl
plain_symbols (byte ∷ bytes) (is, plain) =
    ap (λ (t : Bool). (if t then [] else Byte byte ∷ []) ++ symbols_from t bytes) (ne_eqb byte escape is)
    ∙ ap (λ (s : List Symbol). Byte byte ∷ s) (plain_symbols bytes plain)

-- no message is in such bytes
no_message : (bytes : List ℕ) → Plain bytes → in_turn 0 (found_in bytes) ≡ 0
no_message bytes plain =
    ap (λ (s : List Symbol). in_turn 0 (found_of s)) (plain_symbols bytes plain ∙ sym (append-nil (map Byte bytes)))
    ∙ ap₂ (λ l (found : List Found). in_turn 0 (stray l ++ found)) (run_bytes bytes []) (no_start bytes [])
    ∙ none (bytes ++ [])
  where
    none : (l : List ℕ) → in_turn 0 (stray l ++ []) ≡ 0
    none [] = refl
    none (b ∷ l) = refl

plain_both : (xs ys : List ℕ) → Plain xs → Plain ys → Plain (xs ++ ys)
plain_both [] ys a b = b
plain_both (x ∷ xs) ys (is, a) b = (is, plain_both xs ys a b)

-- the first bytes of a text show no format
starts_nothing : (start : List ℕ) (rest : Sign) → slice_index start 0 ≢ escape
    → first_shown (start_sign start) rest ≡ rest
unfolding start_sign
starts_nothing start rest other =
    by (length start == 2) (slice_index start 0 == escape) (ne_eqb _ escape other) (is_packed start)
    (is_utf16 start) (is_tar start)
  where
    by : (a b : Bool) → b ≡ false → (packed utf tar : Bool)
        → first_shown (if a && b && is_known (kind_of (slice_index start 1)) then Shows Beast
        else (if packed then Other Packed else (if utf then Other Utf16 else (if tar then Other Tar
        else Unclear)))) rest ≡ rest
    by true true e packed utf tar = absurd (true≢false e)
    by true false e true utf tar = refl
    by true false e false true tar = refl
    by true false e false false true = refl
    by true false e false false false = refl
    by false b e true utf tar = refl
    by false b e false true tar = refl
    by false b e false false true = refl
    by false b e false false false = refl

-- the text so far: the bytes before the unfinished line, and the line
abbrev Text : (before line : List ℕ) → Bool → Option Stranger → Lines
Text before line is_framed stranger = record {
  line = line;
  count = length before + length line;
  is_framed = is_framed;
  stranger = stranger;
}

-- the messages in a row at the end of these bytes and those to come
abbrev Turns : List ℕ → List ℕ → ℕ
Turns bytes q = in_turn 0 (found_in (bytes ++ q))

-- the line before a semicolon shows nothing or this format
abbrev IsQuietOr : Format → List ℕ → Type 0
IsQuietOr format line = (marked_sign line ≡ Unclear) ⊎ (marked_sign line ≡ Shows format)

module _ (before : List ℕ) (is_framed : Bool) where
  -- a byte that shows nothing
  quiet_byte : (line : List ℕ) (byte : ℕ) (stranger : Option Stranger) (rest : Sign) → byte ≢ 10
      → (byte ≡ 59 → marked_sign line ≡ Unclear) → slice_index (line ++ byte ∷ []) 0 ≢ escape
      → first_shown (byte_sign (Text before line is_framed stranger) byte) rest ≡ rest
  quiet_byte line byte stranger rest other unmarked first =
      ap (λ (t : Bool). first_shown (if t then line_sign is_framed line
      else (if byte == 59 then marked_sign line
      else (if length line == length before + length line then start_sign (line ++ byte ∷ []) else Unclear))) rest)
      (ne_eqb byte 10 other)
      ∙ by (byte == 59) (length line == length before + length line) refl
    where
      by : (t u : Bool) → (byte == 59) ≡ t → first_shown (if t then marked_sign line
          else (if u then start_sign (line ++ byte ∷ []) else Unclear)) rest ≡ rest
      by true u is = ap (λ (s : Sign). first_shown s rest) (unmarked (eqb-true byte 59 is))
      by false true is = starts_nothing (line ++ byte ∷ []) rest first
      by false false is = refl

  -- what a source shows if a marked frame shows it at this byte, or the bytes to come show it
  next_shown : (line : List ℕ) (byte : ℕ) (stranger : Option Stranger) (rest : Sign) (format : Format) → byte ≢ 10
      → (byte ≡ 59 → IsQuietOr format line) → slice_index (line ++ byte ∷ []) 0 ≢ escape → rest ≡ Shows format
      → first_shown (byte_sign (Text before line is_framed stranger) byte) rest ≡ Shows format
  next_shown line byte stranger rest format other mark first shows = by (byte == 59) refl
    where
      quiet : (byte ≡ 59 → marked_sign line ≡ Unclear)
          → first_shown (byte_sign (Text before line is_framed stranger) byte) rest ≡ Shows format
      quiet unmarked = quiet_byte line byte stranger rest other unmarked first ∙ shows

      at_mark : byte ≡ 59 → IsQuietOr format line
          → first_shown (byte_sign (Text before line is_framed stranger) byte) rest ≡ Shows format
      at_mark is (inl none) = quiet (λ e. none)
      at_mark is (inr marked) =
          ap (λ b. first_shown (byte_sign (Text before line is_framed stranger) b) rest) is
          ∙ ap (λ (s : Sign). first_shown s rest) marked

      by : (t : Bool) → (byte == 59) ≡ t
          → first_shown (byte_sign (Text before line is_framed stranger) byte) rest ≡ Shows format
      by true is = at_mark (eqb-true byte 59 is) (mark (eqb-true byte 59 is))
      by false is = quiet (λ e. absurd (true≢false (sym (eq-eqb byte 59 e) ∙ is)))

  first_of : (line : List ℕ) (byte : ℕ) → Plain line → byte ≢ escape → slice_index (line ++ byte ∷ []) 0 ≢ escape
  first_of [] byte plain other = other
  first_of (x ∷ line) byte (is, plain) other = is

  -- a line is as framed after a byte within it
  still_framed : (line : List ℕ) (byte : ℕ) (stranger : Option Stranger) → byte ≢ 10
      → framed_after (Text before line is_framed stranger) byte ≡ is_framed
  still_framed line byte stranger other =
      ap (λ (t : Bool). is_framed || t && is_framed_line line) (ne_eqb byte 10 other) ∙ by is_framed
    where
      by : (t : Bool) → (t || false) ≡ t
      by true = refl
      by false = refl

  -- this byte or the bytes to come show the format
  abbrev Ends : (byte : ℕ) (more : List ℕ) (format : Format) (line : List ℕ) → Option Stranger → Type 0
  Ends byte more format line stranger =
      first_shown (byte_sign (Text before line is_framed stranger) byte)
      (sign_within (lines_after (Text before line is_framed stranger) byte)
      (shown_by (λ q. Turns before (line ++ byte ∷ q)) (lines_after (Text before line is_framed stranger) byte) more))
      ≡ Shows format

  -- A source shows a format if its unfinished line shows it at this byte, or before it by a marked frame.
  shown_at : (line front more : List ℕ) (byte : ℕ) (stranger : Option Stranger) (format : Format)
      → length before + length line + length front < 16384 → Plain before → Plain (line ++ front) → byte ≢ escape
      → AllByRecursion (λ b. b ≢ 10) front
      → ((early back : List ℕ) → front ≡ early ++ 59 ∷ back → IsQuietOr format (line ++ early))
      → ((s : Option Stranger) → Ends byte more format (line ++ front) s)
      → shown_by (λ q. Turns before (line ++ q)) (Text before line is_framed stranger) (front ++ byte ∷ more)
      ≡ Shows format
  shown_at line [] more byte stranger format few old plain other lines unmarked shows =
      let all : Plain (before ++ (line ++ byte ∷ [])) = plain_both before (line ++ byte ∷ []) old
      (plain_both line (byte ∷ []) (subst Plain (append-nil line) plain) (other, tt)) in
      ap (λ n. if is_beast n then Shows Beast
      else first_shown (byte_sign (Text before line is_framed stranger) byte)
      (sign_within (lines_after (Text before line is_framed stranger) byte)
      (shown_by (λ q. Turns before (line ++ byte ∷ q)) (lines_after (Text before line is_framed stranger) byte) more)))
      (no_message (before ++ (line ++ byte ∷ [])) all)
      ∙ subst (λ l. Ends byte more format l stranger) (append-nil line) (shows stranger)
  shown_at line (x ∷ front) more byte stranger format few old plain other (is, lines) unmarked shows =
      let onward : (line ++ x ∷ []) ++ front ≡ line ++ x ∷ front = append_assoc line (x ∷ []) front in
      let parts = plain_parts line (x ∷ front) plain in
      let all : Plain (before ++ (line ++ x ∷ [])) = plain_both before (line ++ x ∷ []) old
      (plain_both line (x ∷ []) parts.0 (parts.1.0, tt)) in
      let after = lines_after (Text before line is_framed stranger) x in
      let size : length (line ++ x ∷ []) ≡ length line + 1 = length-append line (x ∷ []) in
      ap (λ n. if is_beast n then Shows Beast
      else first_shown (byte_sign (Text before line is_framed stranger) x) (sign_within after
      (shown_by (λ q. Turns before (line ++ x ∷ q)) after (front ++ byte ∷ more))))
      (no_message (before ++ (line ++ x ∷ [])) all)
      ∙ next_shown line x stranger _ format is (λ e. subst (IsQuietOr format) (append-nil line)
      (unmarked [] front (ap (λ b. b ∷ front) e))) (first_of line x parts.0 parts.1.0)
      (ap (λ (t : Bool). if t then limit_sign after
      else shown_by (λ q. Turns before (line ++ x ∷ q)) after (front ++ byte ∷ more))
      (ne_eqb (length before + length line + 1) 16384 (λ e. absurd (omega (arith, e, few))))
      ∙ ap₂ (λ l n. shown_by (λ q. Turns before (line ++ x ∷ q))
      (record { line = l; count = n; is_framed = after.is_framed; stranger = after.stranger }) (front ++ byte ∷ more))
      (ap (λ (t : Bool). if t then [] else line ++ x ∷ []) (ne_eqb x 10 is)) (omega (arith, size))
      ∙ ap (λ f. shown_by (λ q. Turns before (line ++ x ∷ q)) (Text before (line ++ x ∷ []) f after.stranger)
      (front ++ byte ∷ more)) (still_framed line x stranger is)
      ∙ shown_by-same (λ q. Turns before (line ++ x ∷ q)) (λ q. Turns before ((line ++ x ∷ []) ++ q))
      (Text before (line ++ x ∷ []) is_framed after.stranger) (front ++ byte ∷ more)
      (λ q. ap (Turns before) (sym (append_assoc line (x ∷ []) q)))
      ∙ shown_at (line ++ x ∷ []) front more byte after.stranger format (omega (arith, few, size)) old
      (subst Plain (sym onward) plain) other lines
      (λ early back split. subst (IsQuietOr format) (sym (append_assoc line (x ∷ []) early))
      (unmarked (x ∷ early) back (ap (λ l. x ∷ l) split)))
      (λ s. subst (λ l. Ends byte more format l s) (sym onward) (shows s)))
    where
      plain_parts : (xs ys : List ℕ) → Plain (xs ++ ys) → Plain xs × Plain ys
      plain_parts [] ys all = (tt, all)
      plain_parts (y ∷ xs) ys (one, all) = let rest = plain_parts xs ys all in ((one, rest.0), rest.1)

pub line_is_shown : LineIsShown
line_is_shown line more format text sign =
    ap (λ (s : Sign). items_shown s (line ++ 10 ∷ more))
    (shown_at [] false [] line more 10 None format (omega (arith, text.short)) tt text.plain
    (λ e. absurd (omega (arith, e))) text.one_line (λ early back split. inl (text.unmarked early back split))
    (λ s. ap (λ (t : Sign). first_shown t (sign_within (lines_after (Text [] line false s) 10)
    (shown_by (λ q. Turns [] (line ++ 10 ∷ q)) (lines_after (Text [] line false s) 10) more))) sign))

-- ---- a line of AVR text

quiet_item : (item : Found) → (sign_of_item item ≡ Unclear) ⊎ (sign_of_item item ≡ Shows Avr)
quiet_item (Whole message) = inr refl
quiet_item Damage = inl refl
quiet_item IdFound = inl refl
quiet_item (Foreign stranger) = inl refl

-- a marked frame shows AVR text alone
quiet_mark : (line : List ℕ) → IsQuietOr Avr line
quiet_mark line = by_word (without_mark line)
  where
    by_mark : (mark : Option Mark) (word : List ℕ) → (sign_by_mark mark word ≡ Unclear)
        ⊎ (sign_by_mark mark word ≡ Shows Avr)
    by_mark (Some mark) word = quiet_item (item_of mark word)
    by_mark None word = inl refl

    by_word : (word : List ℕ) → (sign_of_word word ≡ Unclear) ⊎ (sign_of_word word ≡ Shows Avr)
    by_word [] = inl refl
    by_word (first ∷ word) = by_mark (mark_of first) word

framed_line : (line : List ℕ) → IsAvrLine line → is_framed_line line ≡ true
framed_line line is = ap₂ (λ (a b : Bool). not a && b) is.no_semicolons is.framed

avr_line_sign : (is_framed : Bool) (line : List ℕ) → IsAvrLine line
    → line_sign is_framed line
    ≡ first_shown (if is_framed || is_bare_line line then Shows Avr else Unclear) (other_sign (without_mark line))
unfolding line_sign
avr_line_sign is_framed line is =
    ap (λ (s : Sign). first_shown s (first_shown (sign_of_row (row_read csv_start line))
    (first_shown (text_sign is_framed line) (other_sign (without_mark line))))) is.no_log
    ∙ ap (λ (s : Sign). first_shown s (first_shown (text_sign is_framed line) (other_sign (without_mark line))))
    is.no_row
    ∙ ap (λ (b : Bool). first_shown (if b && (is_framed || is_bare_line line) then Shows Avr else Unclear)
    (other_sign (without_mark line))) (framed_line line is)

-- a line of another kind shows no format
other_quiet : (line : List ℕ) (rest : Sign) → first_shown (other_sign line) rest ≡ rest
other_quiet line rest = by (is_sbs line) (bytes_eq (take 1 line) (codes "{")) (unread_table line)
  where
    by : (a b : Bool) (stranger : Option Stranger)
        → first_shown (if a then Other Sbs else (if b then Other Json else told_sign stranger)) rest ≡ rest
    by true b stranger = refl
    by false true stranger = refl
    by false false (Some stranger) = refl
    by false false None = refl

-- the text after a first line with a frame
module _ (line : List ℕ) (is : IsAvrLine line) where
  abbrev After : Option Stranger → Lines
  After s = lines_after (Text [] line false s) 10

  after_first : (s : Option Stranger) → After s ≡ Text (line ++ 10 ∷ []) [] true (After s).stranger
  after_first s =
      ap₂ (λ n (t : Bool). record { line = []; count = n; is_framed = t; stranger = (After s).stranger })
      (omega (arith, length-append line (10 ∷ []))) (framed_line line is)

  at_limit : (s : Option Stranger) → limit_sign (After s) ≡ Shows Avr
  unfolding line_sign
  at_limit s = ap limit_sign (after_first s)

  -- AVR text is shown after that line if the bytes to come show it
  passed : (s : Option Stranger) (rest : Sign) → rest ≡ Shows Avr
      → first_shown (byte_sign (Text [] line false s) 10) (sign_within (After s) rest) ≡ Shows Avr
  passed s rest shows =
      ap (λ (t : Sign). first_shown t (sign_within (After s) rest)) (avr_line_sign false line is)
      ∙ alone (is_bare_line line)
    where
      by : (t : Bool) → (if t then limit_sign (After s) else rest) ≡ Shows Avr
      by true = at_limit s
      by false = shows

      within : sign_within (After s) rest ≡ Shows Avr
      within = by ((After s).count == limit)

      alone : (t : Bool) → first_shown (first_shown (if t then Shows Avr else Unclear) (other_sign (without_mark line)))
          (sign_within (After s) rest) ≡ Shows Avr
      alone true = refl
      alone false = other_quiet (without_mark line) (sign_within (After s) rest) ∙ within

  plain_line : Plain (line ++ 10 ∷ [])
  plain_line = plain_both line (10 ∷ []) is.plain ((λ e. absurd (omega (arith, e))), tt)

  first_is_shown : (more : List ℕ) → ((s : Option Stranger) → shown_by (λ q. Turns [] (line ++ 10 ∷ q)) (After s) more
      ≡ Shows Avr) → any_found (line ++ 10 ∷ more) ≡ avr_found (line ++ 10 ∷ more)
  first_is_shown more later =
      ap (λ (s : Sign). items_shown s (line ++ 10 ∷ more))
      (shown_at [] false [] line more 10 None Avr (omega (arith, is.short)) tt is.plain
      (λ e. absurd (omega (arith, e))) is.one_line (λ early back split. quiet_mark early)
      (λ s. passed s _ (later s)))

pub avr_line_is_shown : AvrLineIsShown
unfolding line_sign
avr_line_is_shown line is =
    first_is_shown line is [] (λ s.
    ap₂ (λ n (text : Lines). last_sign n text) (no_message (line ++ 10 ∷ []) (plain_line line is))
    (after_first line is s)
    ∙ ap (λ (t : Bool). if t then Unclear else Shows Avr)
    (ne_eqb (length (line ++ 10 ∷ []) + 0) 0 (λ e. absurd (omega (arith, e, length-append line (10 ∷ []))))))

pub avr_lines_are_shown : AvrLinesAreShown
avr_lines_are_shown line second more is also few =
    first_is_shown line is (second ++ 10 ∷ more) (λ s.
    ap (λ (text : Lines). shown_by (λ q. Turns [] (line ++ 10 ∷ q)) text (second ++ 10 ∷ more)) (after_first line is s)
    ∙ shown_by-same (λ q. Turns [] (line ++ 10 ∷ q)) (λ q. Turns (line ++ 10 ∷ []) ([] ++ q))
    (Text (line ++ 10 ∷ []) [] true (After line is s).stranger) (second ++ 10 ∷ more)
    (λ q. ap (λ l. in_turn 0 (found_in l)) (sym (append_assoc line (10 ∷ []) q)))
    ∙ shown_at (line ++ 10 ∷ []) true [] second more 10 (After line is s).stranger Avr
    (omega (arith, few, length-append line (10 ∷ []))) (plain_line line is) also.plain
    (λ e. absurd (omega (arith, e))) also.one_line (λ early back split. quiet_mark early)
    (λ t. ap (λ (sign : Sign). first_shown sign (sign_within (lines_after (Text (line ++ 10 ∷ []) second true t) 10)
    (shown_by (λ q. Turns (line ++ 10 ∷ []) (second ++ 10 ∷ q))
    (lines_after (Text (line ++ 10 ∷ []) second true t) 10) more))) (avr_line_sign true second also)))

-- ---- a marked frame

-- a mark is none of these bytes
unlike : (byte other : ℕ) (mark : Mark) → mark_of byte ≡ Some mark → mark_of other ≡ None → byte ≢ other
unlike byte other mark is none e = let both : Some mark ≡ None = sym is ∙ ap mark_of e ∙ none in cc

hex_unlike : (byte other : ℕ) → is_hex byte ≡ true → is_hex other ≡ false → byte ≢ other
hex_unlike byte other hex none e = let both : true ≡ false = sym hex ∙ ap is_hex e ∙ none in cc

each_unlike : (digits : List ℕ) (other : ℕ) → AreHex digits → is_hex other ≡ false
    → AllByRecursion (λ byte. byte ≢ other) digits
each_unlike [] other hex none = tt
each_unlike (d ∷ digits) other (is, hex) none = (hex_unlike d other is none, each_unlike digits other hex none)

few_digits : (mark : Mark) (size : Size) → 2 * (lead mark + frame_len size) ≤ 42
few_digits PlainMark TwoBytes = omega arith
few_digits PlainMark SevenBytes = omega arith
few_digits PlainMark FourteenBytes = omega arith
few_digits Clocked TwoBytes = omega arith
few_digits Clocked SevenBytes = omega arith
few_digits Clocked FourteenBytes = omega arith
few_digits Signalled TwoBytes = omega arith
few_digits Signalled SevenBytes = omega arith
few_digits Signalled FourteenBytes = omega arith

-- the sign of a marked frame at its semicolon
marked_is_shown : (sent : AvrSent) → IsSent sent → marked_sign (sent.first ∷ sent.digits) ≡ Shows Avr
marked_is_shown sent is =
    ap (λ (t : Bool). sign_of_word (if t && bytes_eq (take 2 sent.digits) (0xBB ∷ 0xBF ∷ [])
    then drop 3 (sent.first ∷ sent.digits) else sent.first ∷ sent.digits))
    (ne_eqb sent.first 0xEF (unlike sent.first 0xEF sent.mark is.is_mark refl))
    ∙ ap (λ m. sign_by_mark m sent.digits) is.is_mark
    ∙ ap sign_of_item (written_item sent.mark sent.size sent.digits is.hex is.full)

pub sent_text_is_shown : SentTextIsShown
sent_text_is_shown sent more is =
    let word = sent.first ∷ sent.digits in
    let semicolons : AllByRecursion (λ byte. byte ≢ 59) word = (
      unlike sent.first 59 sent.mark is.is_mark refl,
      each_unlike sent.digits 59 is.hex refl,
    ) in
    let shape : sent_text sent ++ more ≡ word ++ 59 ∷ more =
    ap (λ l. sent.first ∷ l) (append_assoc sent.digits (59 ∷ []) more) in
    ap any_found shape
    ∙ ap (λ (s : Sign). items_shown s (word ++ 59 ∷ more))
    (shown_at [] false [] word more 59 None Avr
    (omega (arith, is.full, few_digits sent.mark sent.size)) tt
    (unlike sent.first escape sent.mark is.is_mark refl, each_unlike sent.digits escape is.hex refl)
    (λ e. absurd (omega (arith, e)))
    (unlike sent.first 10 sent.mark is.is_mark refl, each_unlike sent.digits 10 is.hex refl)
    (λ early back split. quiet_mark early)
    (λ s. ap (λ (t : Sign). first_shown t (sign_within (lines_after (Text [] word false s) 59)
    (shown_by (λ q. Turns [] (word ++ 59 ∷ q)) (lines_after (Text [] word false s) 59) more)))
    (marked_is_shown sent is)))
    ∙ ap avr_found (sym shape)

-- ---- examples

abbrev pub lacks : ℕ → List ℕ → Bool
lacks byte [] = true
lacks byte (b ∷ text) = not (b == byte) && lacks byte text

each_other : (byte : ℕ) (text : List ℕ) → lacks byte text ≡ true → AllByRecursion (λ b. b ≢ byte) text
each_other byte [] all = tt
each_other byte (b ∷ text) all = by (b == byte) (lacks byte text) refl all (λ more. each_other byte text more) refl
  where
    by : (t u : Bool) → (b == byte) ≡ t → (not t && u) ≡ true
        → (lacks byte text ≡ true → AllByRecursion (λ x. x ≢ byte) text) → lacks byte text ≡ u
        → (b ≢ byte) × AllByRecursion (λ x. x ≢ byte) text
    by false true is _ others more = (λ e. true≢false (sym (eq-eqb b byte e) ∙ is), others more)
    by false false _ none _ _ = absurd (false≢true none)
    by true u _ none _ _ = absurd (false≢true none)

-- a line of bytes that are known
pub avr_line : (line : List ℕ) → length line < 16384 → lacks 10 line ≡ true → lacks escape line ≡ true
    → sign_of_line (row_read LogLayout line) ≡ Unclear → sign_of_row (row_read csv_start line) ≡ Unclear
    → is_row_behind 59 line ≡ false → has_frame (avr_found line) ≡ true → IsAvrLine line
avr_line line few feeds escapes log row semicolons frame = record {
  short = few;
  one_line = each_other 10 line feeds;
  plain = each_other escape line escapes;
  no_log = log;
  no_row = row;
  no_semicolons = semicolons;
  framed = frame;
}
