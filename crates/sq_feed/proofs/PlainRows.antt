-- Rows in their usual form: seconds, a point, decimals, a comma, a cell, a comma, and a long frame.
use Rattle.std.proofs.Common.{◌≡◌, ◌≢◌, ◌+◌, ◌-◌, ◌*◌, ◌^◌, ◌<◌, ◌≤◌, ◌++◌, ◌∙◌, ℕ, zero, suc, Bool, true, false, not, List, [], ◌∷◌, length}
use Rattle.std.proofs.Common.{true≢false, take, drop, get_or, ap, ap₂, refl, sym, arith, cond, inl, inr, subst, append-nil, take-append-drop, length-append, append_assoc}
use Rattle.std.specs.Prelude.{◌==◌, ◌&&◌, ◌||◌, Some, None, bytes_eq, nat_le, nat_lt, if◌then◌else◌}
use Rattle.std.specs.Char.{is_ascii_digit, is_ascii_whitespace}
use Rattle.std.specs.List.{AllByRecursion, prefix_len, suffix_len}
use Rattle.std.proofs.lemmas.List.Sums.{suffix_len-take_no}
use Rattle.std.specs.Str.Parse.{digits_value}
use Rattle.std.proofs.Math.Seq.{take-append_seam, drop-append-add}
use Rattle.std.proofs.lemmas.Bool.{and_parts, eq-eqb, le-ltb, lt-leb, lt-ltb, ltb-false, ltb-true, ne_eqb}
use Rattle.std.proofs.lemmas.List.{get_or-take, length-drop, length-take-le, take_all}
use Rattle.std.proofs.lemmas.List.{drop_more, get_or-drop}
use Rattle.sq_feed.specs.declared.message.Message.{Message}
use Rattle.sq_feed.specs.declared.message.Found.TheVariants.{Damage, Whole}
use Rattle.sq_feed.specs.declared.message.RawFrame.TheVariants.{Long}
use Rattle.sq_feed.specs.declared.message.Time.TheVariants.{Millis}
use Rattle.sq_feed.specs.declared.rows.Row.TheVariants.{Blank, One}
use Rattle.sq_feed.specs.Avr.{AreHex, bytes_of, frame_of_word, is_hex}
use Rattle.sq_feed.specs.Cells.{after_cell, are_digits, bare_comma, cell_end, cell_of, content_of, first_cell, millis_at, millis_of, number_of, position_of, thousandths, unquoted, without_back}
use Rattle.sq_feed.specs.Rows.{IsLineEnd, IsRowAt, csv_message, csv_start, frame_in, message_at, millis_in, row_of_text, row_or_names, row_read, text_read, without_last, without_mark}
use Rattle.sq_feed.proofs.AvrLemmas.{long_frame}
use Rattle.sq_feed.proofs.Numbers.{small_value}

-- ---- bytes that do not occur in a text

abbrev pub Lacks : ℕ → List ℕ → Type 0
Lacks byte text = AllByRecursion (λ b. b ≢ byte) text

lacks_both : (byte : ℕ) (xs ys : List ℕ) → Lacks byte xs → Lacks byte ys → Lacks byte (xs ++ ys)
lacks_both byte [] ys a b = b
lacks_both byte (x ∷ xs) ys (is, a) b = (is, lacks_both byte xs ys a b)

digits_lack : (byte : ℕ) (text : List ℕ) → is_ascii_digit byte ≡ false → are_digits text ≡ true → Lacks byte text
digits_lack byte [] other all = tt
digits_lack byte (x ∷ text) other all =
    let parts = and_parts (is_ascii_digit x) (are_digits text) all in (
      λ same. absurd (cc (sym parts.0 ∙ ap is_ascii_digit same ∙ other)),
      digits_lack byte text other parts.1,
    )

hex_lacks : (byte : ℕ) (text : List ℕ) → is_hex byte ≡ false → AreHex text → Lacks byte text
hex_lacks byte [] other all = tt
hex_lacks byte (x ∷ text) other (is, all) = (
  λ same. absurd (cc (sym is ∙ ap is_hex same ∙ other)),
  hex_lacks byte text other all,
)

pub each_lacks : (byte : ℕ) (text : List ℕ) → ((k : ℕ) → k < length text → get_or text k 0 ≢ byte) → Lacks byte text
each_lacks byte [] each = tt
each_lacks byte (x ∷ text) each = (
  each 0 (omega arith),
  each_lacks byte text (λ k within. each (suc k) (omega (arith, within))),
)

-- ---- the position of a byte

-- the position of a byte after a text without it
seam : (byte : ℕ) (xs ys : List ℕ) → Lacks byte xs → position_of byte (xs ++ byte ∷ ys) ≡ length xs
seam byte [] ys lacks = ap (λ b. cond (not b) (1 + position_of byte ys) 0) (eq-eqb byte byte refl)
seam byte (x ∷ xs) ys (is, lacks) =
    ap (λ b. cond (not b) (1 + position_of byte (xs ++ byte ∷ ys)) 0) (ne_eqb x byte is)
    ∙ ap (λ n. 1 + n) (seam byte xs ys lacks) ∙ omega arith

nowhere : (byte : ℕ) (xs : List ℕ) → Lacks byte xs → position_of byte xs ≡ length xs
nowhere byte [] lacks = refl
nowhere byte (x ∷ xs) (is, lacks) =
    ap (λ b. cond (not b) (1 + position_of byte xs) 0) (ne_eqb x byte is)
    ∙ ap (λ n. 1 + n) (nowhere byte xs lacks) ∙ omega arith

before_seam : (byte : ℕ) (xs ys : List ℕ) → Lacks byte xs
    → take (position_of byte (xs ++ byte ∷ ys)) (xs ++ byte ∷ ys) ≡ xs
before_seam byte xs ys lacks =
    ap (λ n. take n (xs ++ byte ∷ ys)) (seam byte xs ys lacks) ∙ take-append_seam xs (byte ∷ ys)

behind_seam : (byte : ℕ) (xs ys : List ℕ) → Lacks byte xs
    → drop (position_of byte (xs ++ byte ∷ ys) + 1) (xs ++ byte ∷ ys) ≡ ys
behind_seam byte xs ys lacks =
    ap (λ n. drop (n + 1) (xs ++ byte ∷ ys)) (seam byte xs ys lacks) ∙ drop-append-add xs (byte ∷ ys) 1

-- ---- cells

-- the first comma ends a cell that does not begin with a quote
plain_end : (row : List ℕ) → get_or row 0 0 ≢ 34 → cell_end row ≡ position_of 44 row
plain_end row other = by (nat_lt 0 (length row)) (get_or row 0 0 == 34) (ne_eqb (get_or row 0 0) 34 other)
  where
    by : (a b : Bool) → b ≡ false → (if a && b then bare_comma false row else position_of 44 row) ≡ position_of 44 row
    by true b is = ap (λ (t : Bool). if t then bare_comma false row else position_of 44 row) is
    by false b is = refl

first_is : (xs ys : List ℕ) → Lacks 44 xs → get_or (xs ++ 44 ∷ ys) 0 0 ≢ 34 → first_cell (xs ++ 44 ∷ ys) ≡ xs
first_is xs ys lacks other =
    ap (λ n. take n (xs ++ 44 ∷ ys)) (plain_end (xs ++ 44 ∷ ys) other) ∙ before_seam 44 xs ys lacks

after_is : (xs ys : List ℕ) → Lacks 44 xs → get_or (xs ++ 44 ∷ ys) 0 0 ≢ 34 → after_cell (xs ++ 44 ∷ ys) ≡ Some ys
after_is xs ys lacks other =
    let row = xs ++ 44 ∷ ys in
    let within : position_of 44 row < length row =
    omega (arith, seam 44 xs ys lacks, length-append xs (44 ∷ ys)) in
    ap (λ n. if nat_lt n (length row) then Some (drop (n + 1) row) else None) (plain_end row other)
    ∙ ap (λ (t : Bool). if t then Some (drop (position_of 44 row + 1) row) else None) (lt-ltb _ _ within)
    ∙ ap Some (behind_seam 44 xs ys lacks)

last_is : (xs : List ℕ) → Lacks 44 xs → get_or xs 0 0 ≢ 34 → first_cell xs ≡ xs
last_is xs lacks other =
    ap (λ n. take n xs) (plain_end xs other) ∙ ap (λ n. take n xs) (nowhere 44 xs lacks) ∙ whole xs
  where
    whole : (ys : List ℕ) → take (length ys) ys ≡ ys
    whole [] = refl
    whole (y ∷ ys) = ap (λ l. y ∷ l) (whole ys)

middle_false : (a b c : Bool) → b ≡ false → (a && b && c) ≡ false
middle_false true b c e = ap (λ (t : Bool). true && t && c) e
middle_false false b c e = refl

bare : (cell : List ℕ) → get_or cell 0 0 ≢ 34 → unquoted cell ≡ cell
bare cell other =
    ap (λ (t : Bool). if t then take (length cell - 2) (drop 1 cell) else cell)
    (middle_false (nat_le 2 (length cell)) (get_or cell 0 0 == 34) (get_or cell (length cell - 1) 0 == 34)
    (ne_eqb (get_or cell 0 0) 34 other))

-- ---- the content of a cell

past : (low high byte : ℕ) → high < byte → (nat_le low byte && nat_le byte high) ≡ false
past low high byte above = by (nat_le low byte) (nat_le byte high) (lt-leb byte high above)
  where
    by : (a b : Bool) → b ≡ false → (a && b) ≡ false
    by true b is = is
    by false b is = refl

-- bytes above 32 are no spaces
no_space : (byte : ℕ) → 32 < byte → is_ascii_whitespace byte ≡ false
no_space byte above =
    ap (λ (b : Bool). (b || (nat_le 12 byte && nat_le byte 13)) || (nat_le 32 byte && nat_le byte 32))
    (past 9 10 byte (omega (arith, above)))
    ∙ ap (λ (b : Bool). b || (nat_le 32 byte && nat_le byte 32)) (past 12 13 byte (omega (arith, above)))
    ∙ past 32 32 byte above

-- a hexadecimal digit is above 32
hex_above : (byte : ℕ) → is_hex byte ≡ true → 32 < byte
hex_above byte is = by (nat_lt byte 48) refl
  where
    by : (b : Bool) → nat_lt byte 48 ≡ b → 32 < byte
    by true small =
        absurd (true≢false (sym is ∙ ap (λ (b : Bool). nat_lt (cond b 36 (cond (nat_lt byte 58) (byte - 48)
        (cond (nat_lt byte 65) 36 (cond (nat_lt byte 91) (byte - 55) (cond (nat_lt byte 97) 36
        (cond (nat_lt byte 123) (byte - 87) 36)))))) 16) small))
    by false large = omega (arith, ltb-false byte 48 large)

digit_above : (byte : ℕ) → is_ascii_digit byte ≡ true → 32 < byte
digit_above byte is = by (nat_lt byte 48) refl
  where
    by : (b : Bool) → nat_lt byte 48 ≡ b → 32 < byte
    by true small = absurd (true≢false (sym is ∙ ap (λ (b : Bool). b && nat_le byte 57) (lt-leb 48 byte
        (omega (arith, ltb-true byte 48 small)))))
    by false large = omega (arith, ltb-false byte 48 large)

-- each byte is above 32
abbrev pub AllAbove : List ℕ → Type 0
AllAbove text = AllByRecursion (λ b. 32 < b) text

hex_are_above : (word : List ℕ) → AreHex word → AllAbove word
hex_are_above [] hex = tt
hex_are_above (x ∷ word) (is, hex) = (hex_above x is, hex_are_above word hex)

digits_are_above : (digits : List ℕ) → are_digits digits ≡ true → AllAbove digits
digits_are_above [] all = tt
digits_are_above (x ∷ digits) all =
    let parts = and_parts (is_ascii_digit x) (are_digits digits) all in
    (digit_above x parts.0, digits_are_above digits parts.1)

both_above : (xs ys : List ℕ) → AllAbove xs → AllAbove ys → AllAbove (xs ++ ys)
both_above [] ys a b = b
both_above (x ∷ xs) ys (is, a) b = (is, both_above xs ys a b)

above_at : (text : List ℕ) (k : ℕ) → k < length text → AllAbove text → 32 < get_or text k 0
above_at [] k within all = absurd (omega (arith, within))
above_at (x ∷ text) zero within all = all.0
above_at (x ∷ text) (suc k) within all = above_at text k (omega (arith, within)) all.1

-- the content of a cell without spaces and quotes is the cell
same_content : (cell : List ℕ) → 0 < length cell → AllAbove cell → get_or cell 0 0 ≢ 34 → content_of cell ≡ cell
same_content [] some above other = absurd (omega (arith, some))
same_content (x ∷ cell) some above other =
    ap (λ n. unquoted (without_back (drop n (x ∷ cell)))) none
    ∙ ap (λ n. unquoted (take (length (x ∷ cell) - n) (x ∷ cell))) back
    ∙ ap unquoted (take_all (length (x ∷ cell) - 0) (x ∷ cell) (omega arith)) ∙ bare (x ∷ cell) other
  where
    none : prefix_len is_ascii_whitespace (x ∷ cell) ≡ 0
    none = ap (λ (b : Bool). if b then 1 + prefix_len is_ascii_whitespace cell else 0) (no_space x above.0)

    back : suffix_len is_ascii_whitespace (x ∷ cell) ≡ 0
    back =
        ap (suffix_len is_ascii_whitespace) (sym (take_all (length (x ∷ cell)) (x ∷ cell) (omega arith)))
        ∙ suffix_len-take_no is_ascii_whitespace (x ∷ cell) (length (x ∷ cell)) 0 some (omega arith)
        (no_space _ (above_at (x ∷ cell) (length (x ∷ cell) - 1) (omega arith) above))

-- ---- the parts of a row

-- the seconds, a point, and the decimals
abbrev pub time_cell : List ℕ → List ℕ → List ℕ
time_cell seconds decimals = seconds ++ 46 ∷ decimals

-- the row of a time, a cell, and a frame
abbrev pub row_of : List ℕ → List ℕ → List ℕ → List ℕ
row_of time cell word = time ++ 44 ∷ (cell ++ 44 ∷ word)

first_digit : (text : List ℕ) → length text ≡ 10 → are_digits text ≡ true → (more : List ℕ)
    → get_or (text ++ more) 0 0 ≢ 34
first_digit [] long all more same = absurd (omega (arith, long))
first_digit (x ∷ text) long all more same =
    let parts = and_parts (is_ascii_digit x) (are_digits text) all in
    absurd (cc (sym parts.0 ∙ ap is_ascii_digit same))

first_hex : (word : List ℕ) → length word ≡ 28 → AreHex word → get_or word 0 0 ≢ 34
first_hex [] long hex same = absurd (omega (arith, long))
first_hex (x ∷ word) long (is, hex) same = absurd (cc (sym is ∙ ap is_hex same))

seconds_are : (digits : List ℕ) → length digits ≡ 10 → are_digits digits ≡ true
    → number_of 12 digits ≡ Some (digits_value 10 digits)
seconds_are digits long all =
    let few : digits_value 10 digits < 10 ^ 10 = small_value digits 10 all (omega (arith, long)) in
    ap (λ (t : Bool). if t && nat_le 1 (length digits) && nat_le (length digits) 12
    && nat_lt (digits_value 10 digits) (2 ^ 64) then Some (digits_value 10 digits) else None) all
    ∙ ap (λ n. if true && nat_le 1 n && nat_le n 12 && nat_lt (digits_value 10 digits) (2 ^ 64)
    then Some (digits_value 10 digits) else None) long
    ∙ ap (λ (t : Bool). if true && true && true && t then Some (digits_value 10 digits) else None)
    (lt-ltb _ _ (omega (arith, few)))

millis_are : (seconds decimals : List ℕ) → length seconds ≡ 10 → are_digits seconds ≡ true → are_digits decimals ≡ true
    → millis_of (time_cell seconds decimals) ≡ Some (digits_value 10 seconds * 1000 + thousandths decimals)
millis_are seconds decimals long all more =
    let cell = time_cell seconds decimals in
    let lacks = digits_lack 46 seconds refl all in
    ap₂ (λ front rest. millis_at (number_of 12 front) rest) (before_seam 46 seconds decimals lacks)
    (behind_seam 46 seconds decimals lacks)
    ∙ ap (λ o. millis_at o decimals) (seconds_are seconds long all)
    ∙ ap (λ (t : Bool). if t then Some (digits_value 10 seconds * 1000 + thousandths decimals) else None) more

time_lacks : (byte : ℕ) (seconds decimals : List ℕ) → is_ascii_digit byte ≡ false → 46 ≢ byte
    → are_digits seconds ≡ true → are_digits decimals ≡ true → Lacks byte (time_cell seconds decimals)
time_lacks byte seconds decimals other point all more =
    lacks_both byte seconds (46 ∷ decimals) (digits_lack byte seconds other all)
    (point, digits_lack byte decimals other more)

time_some : (seconds decimals : List ℕ) → length seconds ≡ 10 → 0 < length (time_cell seconds decimals)
time_some seconds decimals long = omega (arith, long, length-append seconds (46 ∷ decimals))

time_above : (seconds decimals : List ℕ) → are_digits seconds ≡ true → are_digits decimals ≡ true
    → AllAbove (time_cell seconds decimals)
time_above seconds decimals all more =
    both_above seconds (46 ∷ decimals) (digits_are_above seconds all) (omega arith, digits_are_above decimals more)

bare_row : (seconds decimals cell word : List ℕ) → length seconds ≡ 10 → are_digits seconds ≡ true
    → get_or (row_of (time_cell seconds decimals) cell word) 0 0 ≢ 34
bare_row seconds decimals cell word long all =
    subst (λ l. get_or l 0 0 ≢ 34) (sym (append_assoc seconds (46 ∷ decimals) (44 ∷ (cell ++ 44 ∷ word))))
    (first_digit seconds long all (46 ∷ (decimals ++ 44 ∷ (cell ++ 44 ∷ word))))

word_some : (word : List ℕ) → length word ≡ 28 → 0 < length word
word_some word full = omega (arith, full)

-- the definition reads this message in the parts of a row
pub message_is : (seconds decimals cell word frame : List ℕ) → length seconds ≡ 10 → are_digits seconds ≡ true
    → are_digits decimals ≡ true → Lacks 44 cell → get_or (cell ++ 44 ∷ word) 0 0 ≢ 34 → length word ≡ 28
    → AreHex word × (frame ≡ bytes_of word)
    → csv_message (record { time = 0; frame = 2 }) (row_of (time_cell seconds decimals) cell word)
    ≡ Some (record { time = Millis (digits_value 10 seconds * 1000 + thousandths decimals); frame = Long frame })
message_is seconds decimals cell word frame long all more lacks bare_cell full spelled =
    let time = time_cell seconds decimals in
    let row = row_of time cell word in
    let some : 0 < length time = time_some seconds decimals long in
    let no_comma = time_lacks 44 seconds decimals refl (λ same. absurd (cc same)) all more in
    let bare_time : get_or row 0 0 ≢ 34 = bare_row seconds decimals cell word long all in
    let bare_word = first_hex word full spelled.0 in
    let first : cell_of 0 (Some row) ≡ Some time = ap Some (first_is time (cell ++ 44 ∷ word) no_comma bare_time) in
    let third : cell_of 2 (Some row) ≡ Some word =
    ap (cell_of 1) (after_is time (cell ++ 44 ∷ word) no_comma bare_time)
    ∙ ap (cell_of 0) (after_is cell word lacks bare_cell)
    ∙ ap Some (last_is word (hex_lacks 44 word refl spelled.0) bare_word) in
    ap₂ (λ t f. message_at (millis_in t) (frame_in f)) first third
    ∙ ap₂ (λ t f. message_at (millis_of t) (frame_of_word f))
    (same_content time some
    (time_above seconds decimals all more)
    (first_digit seconds long all (46 ∷ decimals)))
    (same_content word (word_some word full) (hex_are_above word spelled.0) bare_word)
    ∙ ap₂ message_at (millis_are seconds decimals long all more) (sym (long_frame word frame full spelled))

-- ---- the row as a line

last_of : (xs ys : List ℕ) → 0 < length ys → get_or (xs ++ ys) (length (xs ++ ys) - 1) 0 ≡ get_or ys (length ys - 1) 0
last_of [] ys some = refl
last_of (x ∷ xs) ys some =
    let more : suc (length (xs ++ ys)) - 1 ≡ suc (length (xs ++ ys) - 1) =
    omega (arith, length-append xs ys, some) in
    ap (λ n. get_or (x ∷ (xs ++ ys)) n 0) more ∙ last_of xs ys some

last_hex : (word : List ℕ) → AreHex word → 0 < length word → get_or word (length word - 1) 0 ≢ 13
last_hex word hex some = at word (length word - 1) (hex_lacks 13 word refl hex) (omega (arith, some))
  where
    at : (text : List ℕ) (k : ℕ) → Lacks 13 text → k < length text → get_or text k 0 ≢ 13
    at [] k lacks within = absurd (omega (arith, within))
    at (x ∷ text) zero lacks within = lacks.0
    at (x ∷ text) (suc k) lacks within = at text k lacks.1 (omega (arith, within))

-- a text that does not end with a carriage return is unchanged
kept : (text : List ℕ) → get_or text (length text - 1) 0 ≢ 13 → without_last 13 text ≡ text
kept text other =
    both (nat_lt 0 (length text)) (get_or text (length text - 1) 0 == 13) (ne_eqb _ 13 other)
  where
    both : (a b : Bool) → b ≡ false → (if a && b then take (length text - 1) text else text) ≡ text
    both true b e = ap (λ (t : Bool). if t then take (length text - 1) text else text) e
    both false b e = refl

-- a carriage return at the end is dropped
dropped : (text : List ℕ) → without_last 13 (text ++ 13 ∷ []) ≡ text
dropped text =
    let line = text ++ 13 ∷ [] in
    let size : length line ≡ length text + 1 = length-append text (13 ∷ []) in
    let last : get_or line (length line - 1) 0 ≡ 13 = last_of text (13 ∷ []) (omega arith) in
    ap₂ (λ (s t : Bool). if s && t then take (length line - 1) line else line) (lt-ltb _ _ (omega (arith, size)))
    (eq-eqb _ 13 last)
    ∙ ap (λ n. take n line) (omega (arith, size)) ∙ take-append_seam text (13 ∷ [])

-- a text that does not begin with a byte order mark is unchanged
unmarked : (text : List ℕ) → get_or text 0 0 ≢ 0xEF → without_mark text ≡ text
unmarked [] other = refl
unmarked (x ∷ text) other =
    ap (λ (t : Bool). if t && bytes_eq (take 2 text) (0xBB ∷ 0xBF ∷ []) then drop 3 (x ∷ text) else x ∷ text)
    (ne_eqb x 0xEF other)

-- the reading of a line of at most 512 bytes that is not blank
line_reads : (line row : List ℕ) (message : Message) → length line ≤ 512 → without_last 13 line ≡ row
    → get_or row 0 0 ≢ 0xEF → 0 < length row
    → csv_message (record { time = 0; frame = 2 }) row ≡ Some message → row_read csv_start line ≡ One (Whole message)
line_reads line row message few bare_line other some is =
    ap (λ (t : Bool). if t then One Damage else row_of_text csv_start (without_mark (without_last 13 line)))
    (le-ltb _ _ few)
    ∙ ap (λ text. row_of_text csv_start (without_mark text)) bare_line
    ∙ ap (row_of_text csv_start) (unmarked row other)
    ∙ ap (λ (t : Bool). if t then Blank else text_read csv_start row) (ne_eqb (length row) 0 (λ none.
    absurd (omega (arith, some, none))))
    ∙ ap (λ m. row_or_names m row) is

-- a text that begins with a digit does not begin with a byte order mark
digit_first : (text more : List ℕ) → 0 < length text → are_digits text ≡ true → get_or (text ++ more) 0 0 ≢ 0xEF
digit_first [] more some all = absurd (omega (arith, some))
digit_first (x ∷ text) more some all = λ same.
    absurd (cc (sym (and_parts (is_ascii_digit x) (are_digits text) all).0 ∙ ap is_ascii_digit same))

-- ---- the row at the front of a piece

split_at : (text : List ℕ) (k byte : ℕ) → k < length text → get_or text k 0 ≡ byte
    → text ≡ take k text ++ byte ∷ drop (k + 1) text
split_at text k byte within is =
    sym (take-append-drop k text)
    ∙ ap (λ l. take k text ++ l) (drop_more text k 0 within ∙ ap (λ b. b ∷ drop (k + 1) text) is)

front_of : (xs ys : List ℕ) (byte n : ℕ) → n ≡ length xs + 1 → take n (xs ++ byte ∷ ys) ≡ xs ++ byte ∷ []
front_of [] ys byte n is = ap (λ m. take m (byte ∷ ys)) is
front_of (x ∷ xs) ys byte n is =
    let next : n ≡ suc (length xs + 1) = omega (arith, is) in
    ap (λ m. take m (x ∷ (xs ++ byte ∷ ys))) next ∙ ap (λ l. x ∷ l) (front_of xs ys byte (length xs + 1) refl)

joined : (seconds decimals cell word more : List ℕ)
    → seconds ++ 46 ∷ (decimals ++ 44 ∷ (cell ++ 44 ∷ (word ++ more)))
    ≡ row_of (time_cell seconds decimals) cell word ++ more
joined seconds decimals cell word more =
    let time = time_cell seconds decimals in
    sym (append_assoc time (44 ∷ (cell ++ 44 ∷ word)) more
    ∙ ap (λ l. time ++ 44 ∷ l) (append_assoc cell (44 ∷ word) more)
    ∙ append_assoc seconds (46 ∷ decimals) (44 ∷ (cell ++ 44 ∷ (word ++ more))))

row_length : (seconds decimals cell word : List ℕ) → length seconds ≡ 10 → length word ≡ 28
    → length (row_of (time_cell seconds decimals) cell word) ≡ 41 + length decimals + length cell
row_length seconds decimals cell word ten full =
    omega (
      arith,
      ten,
      full,
      length-append (time_cell seconds decimals) (44 ∷ (cell ++ 44 ∷ word)),
      length-append seconds (46 ∷ decimals),
      length-append cell (44 ∷ word),
    )

row_last : (time cell word : List ℕ) → 0 < length word → AreHex word
    → get_or (row_of time cell word) (length (row_of time cell word) - 1) 0 ≢ 13
row_last time cell word some hex same =
    last_hex word hex some
    (sym (last_of time (44 ∷ (cell ++ 44 ∷ word)) (omega arith)
    ∙ last_of (44 ∷ cell) (44 ∷ word) (omega arith) ∙ last_of (44 ∷ []) word some) ∙ same)

-- a carriage return before the line feed, or nothing
abbrev pub return_of : Bool → List ℕ
return_of true = 13 ∷ []
return_of false = []

return_lacks : (is_there : Bool) → Lacks 10 (return_of is_there)
return_lacks true = ((λ same. absurd (cc same)), tt)
return_lacks false = tt

return_few : (is_there : Bool) → length (return_of is_there) ≤ 1
return_few true = omega arith
return_few false = omega arith

return_dropped : (is_there : Bool) (row : List ℕ) → get_or row (length row - 1) 0 ≢ 13
    → without_last 13 (row ++ return_of is_there) ≡ row
return_dropped true row other = dropped row
return_dropped false row other = ap (without_last 13) (append-nil row) ∙ kept row other

-- the parts of a row, with a line end, at the front of a piece
row_made : (piece seconds decimals cell word frame more : List ℕ) (count moment : ℕ) (returns : Bool)
    → piece ≡ row_of (time_cell seconds decimals) cell word ++ (return_of returns ++ 10 ∷ more)
    → count ≡ 42 + length decimals + length cell + length (return_of returns) → length seconds ≡ 10 → length word ≡ 28
    → length decimals < 16 → length cell < 16
    → are_digits seconds ≡ true → are_digits decimals ≡ true → Lacks 44 cell → Lacks 10 cell
    → get_or (cell ++ 44 ∷ word) 0 0 ≢ 34 → AreHex word × (frame ≡ bytes_of word)
    → moment ≡ digits_value 10 seconds * 1000 + thousandths decimals
    → IsRowAt csv_start piece (record { time = Millis moment; frame = Long frame }, count)
row_made piece seconds decimals cell word frame more count moment returns is long ten full few short all each comma feed
    bare_cell spelled told =
    let ends = return_of returns in
    let row = row_of (time_cell seconds decimals) cell word in
    let line = row ++ ends in
    let size = row_length seconds decimals cell word ten full in
    let lines = length-append row ends in
    let split : piece ≡ line ++ 10 ∷ more = is ∙ sym (append_assoc row ends (10 ∷ more)) in
    record {
      row = line;
      fits = omega (arith, ap length split, length-append line (10 ∷ more), size, lines, long);
      front = ap (take count) split ∙ front_of line more 10 count (omega (arith, size, lines, long));
      one_line = lacks_both 10 row ends (lacks_both 10 (time_cell seconds decimals) (44 ∷ (cell ++ 44 ∷ word))
          (time_lacks 10 seconds decimals refl (λ same. absurd (cc same)) all each) (
            (λ same. absurd (cc same)),
            lacks_both 10 cell (44 ∷ word) feed ((λ same. absurd (cc same)), hex_lacks 10 word refl spelled.0),
          )) (return_lacks returns);
      reads = line_reads line row _ (omega (arith, size, lines, few, short, return_few returns))
          (return_dropped returns row (row_last (time_cell seconds decimals) cell word (omega (arith, full)) spelled.0))
          (subst (λ l. get_or l 0 0 ≢ 0xEF) (sym (append_assoc seconds (46 ∷ decimals) (44 ∷ (cell ++ 44 ∷ word))))
          (digit_first seconds (46 ∷ (decimals ++ 44 ∷ (cell ++ 44 ∷ word))) (omega (arith, ten)) all))
          (omega (arith, size))
          (message_is seconds decimals cell word frame ten all each comma bare_cell full spelled
          ∙ ap (λ m. Some (record { time = Millis m; frame = Long frame })) (sym told));
    }

-- the first byte does not depend on the text after a comma
front_same : (xs ys zs : List ℕ) (byte : ℕ) → get_or (xs ++ 44 ∷ ys) 0 0 ≢ byte → get_or (xs ++ 44 ∷ zs) 0 0 ≢ byte
front_same [] ys zs byte other = other
front_same (x ∷ xs) ys zs byte other = other

-- the line end of a text with 28 digits
line_end_is : (text : List ℕ) (count : ℕ) → 30 ≤ length text → IsLineEnd text 28 count
    → (returns : Bool) × (more : List ℕ) × (text ≡ take 28 text ++ (return_of returns ++ 10 ∷ more))
    × (count ≡ length (return_of returns) + 1)
line_end_is text count room (inl (one, feed)) =
    (false, drop 29 text, split_at text 28 10 (omega (arith, room)) feed, one)
line_end_is text count room (inr (two, back, feed)) = (
  true,
  drop 1 (drop 29 text),
  split_at text 28 13 (omega (arith, room)) back
      ∙ ap (λ l. take 28 text ++ 13 ∷ l) (split_at (drop 29 text) 0 10 (omega (arith, length-drop 29 text, room))
      (get_or-drop 29 text 0 0 ∙ feed)),
  two,
)

-- The slices in the code are the parts of a row.
pub row_at : (piece after cell rest frame : List ℕ) (decimals comma seconds thousand count : ℕ) → 73 ≤ length piece
    → after ≡ drop 11 piece → cell ≡ drop (decimals + 1) after → rest ≡ drop (comma + 1) cell
    → are_digits (take 10 piece) ≡ true → get_or piece 10 0 ≡ 46 → seconds ≡ digits_value 10 (take 10 piece)
    → are_digits (take decimals after) ≡ true → get_or after decimals 0 ≡ 44 → decimals < 16
    → thousand ≡ thousandths (take decimals after) → get_or cell comma 0 ≡ 44
    → ((k : ℕ) → k < comma → (get_or cell k 0 ≢ 44) × (get_or cell k 0 ≢ 10)) → comma < 16 → get_or cell 0 0 ≢ 34
    → AreHex (take 28 rest) × (frame ≡ bytes_of (take 28 rest)) → IsLineEnd rest 28 count
    → IsRowAt csv_start piece
    (record { time = Millis (seconds * 1000 + thousand); frame = Long frame }, 10 + decimals + comma + 28 + 3 + count)
row_at piece after cell rest frame decimals comma seconds thousand count room a b r all point ten each ends few told at
    other short bare_cell spelled end =
    let after_long : length after ≡ length piece - 11 = ap length a ∙ length-drop 11 piece in
    let cell_long : length cell ≡ length after - (decimals + 1) = ap length b ∙ length-drop (decimals + 1) after in
    let rest_long : length rest ≡ length cell - (comma + 1) = ap length r ∙ length-drop (comma + 1) cell in
    let rest_room : 30 ≤ length rest = omega (arith, after_long, cell_long, rest_long, room, few, short) in
    let digits_long = length-take-le decimals after (omega (arith, after_long, room, few)) in
    let bytes_long = length-take-le comma cell (omega (arith, after_long, cell_long, room, few, short)) in
    let (returns, more, split, counted) = line_end_is rest count rest_room end in
    let whole = split_at piece 10 46 (omega (arith, room)) point
    ∙ ap (λ l. take 10 piece ++ 46 ∷ l) (sym a
    ∙ split_at after decimals 44 (omega (arith, after_long, room, few)) ends
    ∙ ap (λ l. take decimals after ++ 44 ∷ l) (sym b
    ∙ split_at cell comma 44 (omega (arith, after_long, cell_long, room, few, short)) at
    ∙ ap (λ l. take comma cell ++ 44 ∷ l) (sym r ∙ split))) in
    row_made piece (take 10 piece) (take decimals after) (take comma cell) (take 28 rest) frame more _ _ returns
    (whole ∙ joined (take 10 piece) (take decimals after) (take comma cell) (take 28 rest)
    (return_of returns ++ 10 ∷ more))
    (omega (arith, digits_long, bytes_long, counted)) (length-take-le 10 piece (omega (arith, room)))
    (length-take-le 28 rest (omega (arith, rest_room)))
    (omega (arith, digits_long, few)) (omega (arith, bytes_long, short)) all each
    (each_lacks 44 (take comma cell) (λ k within. lane cell comma k 44 (omega (arith, within, bytes_long))
    (λ j less. (other j less).0)))
    (each_lacks 10 (take comma cell) (λ k within. lane cell comma k 10 (omega (arith, within, bytes_long))
    (λ j less. (other j less).1)))
    (front_same (take comma cell) (drop (comma + 1) cell) (take 28 rest) 34
    (subst (λ l. get_or l 0 0 ≢ 34)
    (split_at cell comma 44 (omega (arith, after_long, cell_long, room, few, short)) at) bare_cell))
    spelled (ap₂ (λ s t. s * 1000 + t) ten told)
  where
    lane : (text : List ℕ) (n k byte : ℕ) → k < n → ((j : ℕ) → j < n → get_or text j 0 ≢ byte)
        → get_or (take n text) k 0 ≢ byte
    lane text n k byte less each same = each k less (sym (get_or-take n text k 0 less) ∙ same)
