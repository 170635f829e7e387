-- Words of AVR text, byte by byte.
use Rattle.std.proofs.Common.{◌≡◌, ◌≢◌, ◌+◌, ◌*◌, ◌/◌, ◌<◌, ◌≤◌, ◌++◌, ◌∙◌, ℕ, Bool, true, false, List, [], ◌∷◌, length}
use Rattle.std.proofs.Common.{ap, ap₂, refl, sym, subst, arith, append_assoc, append-nil, length-append, suc, drop, get_or, drop-cons, add-one}
use Rattle.std.specs.Prelude.{◌==◌, ◌&&◌, ◌||◌, Option, Some, None, if◌then◌else◌}
use Rattle.std.proofs.lemmas.Bool.{and_parts, ne_eqb}
use Rattle.std.proofs.lemmas.List.{take_all}
use Rattle.std.proofs.lemmas.List.FromFn.{length-map-range_with_len}
use Rattle.sq_feed.specs.declared.message.RawFrame.TheVariants.{Long}
use Rattle.sq_feed.specs.Avr.{byte_at}
use Rattle.sq_feed.specs.declared.avr.Edge.{Edge}
use Rattle.sq_feed.specs.declared.avr.Edge.TheVariants.{Opening, Closing, LineEnd}
use Rattle.sq_feed.specs.declared.avr.Mark.{Mark}
use Rattle.sq_feed.specs.declared.avr.Mark.TheVariants.{Plain, Clocked, Signalled}
use Rattle.sq_feed.specs.declared.message.Found.{Found}
use Rattle.sq_feed.specs.declared.message.Found.TheVariants.{Whole, Damage}
use Rattle.sq_feed.specs.declared.message.Size.{Size}
use Rattle.sq_feed.specs.declared.message.Size.TheVariants.{TwoBytes, SevenBytes, FourteenBytes}
use Rattle.sq_feed.specs.Avr.{AreHex, BegunWord, are_hex, avr_from, avr_message, avr_to_come, bare, bytes_of, edge_of, is_hex, is_line_end}
use Rattle.sq_feed.specs.Avr.{item_of, items_at, items_before, lead, opened_by, opener_after, size_of, stray_word}
use Rattle.sq_feed.specs.Avr.{frame_of_word, framed}
use Rattle.sq_feed.specs.Avr.{AvrSent, BareFrameIsFound, IsSent, SentFrameIsFound, avr_found, mark_of, opening, sent_item, sent_text}
use Rattle.sq_feed.specs.Avr.{whole_or_damage, word_after, word_of, word_size}
use Rattle.sq_feed.specs.Follows.{Follows}
use Rattle.sq_feed.specs.Kinds.{frame_len}

-- ---- words that cannot be a frame

-- the word is not empty, and encodes no frame, whatever bytes follow
pub record IsBad (word : List ℕ) : Type 0 where
  pub some : 0 < length word
  pub none : (mark : Mark) (more : List ℕ) → word_size mark (word ++ more) ≡ None

bad_more : (word : List ℕ) (byte : ℕ) → IsBad word → IsBad (word ++ byte ∷ [])
bad_more word byte bad = record {
  some = omega (arith, bad.some, length-append word (byte ∷ []));
  none = λ mark more. ap (word_size mark) (append_assoc word (byte ∷ []) more) ∙ bad.none mark (byte ∷ more);
}

not_hex : (digits : List ℕ) (byte : ℕ) (more : List ℕ) → is_hex byte ≡ false → are_hex (digits ++ byte ∷ more) ≡ false
not_hex [] byte more e = ap (λ (t : Bool). t && are_hex more) e
not_hex (d ∷ digits) byte more e = both (is_hex d) (not_hex digits byte more e)
  where
    both : (t : Bool) → are_hex (digits ++ byte ∷ more) ≡ false → (t && are_hex (digits ++ byte ∷ more)) ≡ false
    both true h = h
    both false h = refl

-- a word with a byte that is not a digit
bad_byte : (digits : List ℕ) (byte : ℕ) → is_hex byte ≡ false → IsBad (digits ++ byte ∷ [])
bad_byte digits byte e = record {
  some = omega (arith, length-append digits (byte ∷ []));
  none = λ mark more.
      ap (word_size mark) (append_assoc digits (byte ∷ []) more)
      ∙ ap (λ (t : Bool). if t then size_of mark (length (digits
      ++ byte ∷ more)) else None) (not_hex digits byte more e);
}

sizes : (n l : ℕ) → 42 < n → l ≤ 7
    → (if n == 2 * (l + 2) then Some TwoBytes
    else (if n == 2 * (l + 7) then Some SevenBytes else (if n == 2 * (l + 14) then Some FourteenBytes
    else None))) ≡ None
sizes n l many small =
    ap (λ (t : Bool). if t then Some TwoBytes
    else (if n == 2 * (l + 7) then Some SevenBytes else (if n == 2 * (l + 14) then Some FourteenBytes else None)))
    (ne_eqb n (2 * (l + 2)) (λ e. absurd (omega (arith, e))))
    ∙ ap (λ (t : Bool). if t then Some SevenBytes else (if n == 2 * (l + 14) then Some FourteenBytes else None))
    (ne_eqb n (2 * (l + 7)) (λ e. absurd (omega (arith, e))))
    ∙ ap (λ (t : Bool). if t then Some FourteenBytes else None)
    (ne_eqb n (2 * (l + 14)) (λ e. absurd (omega (arith, e))))

too_many : (mark : Mark) (n : ℕ) → 42 < n → size_of mark n ≡ None
too_many Plain n many = sizes n 0 many (omega arith)
too_many Clocked n many = sizes n 6 many (omega arith)
too_many Signalled n many = sizes n 7 many (omega arith)

no_size : (t : Bool) (size : Option Size) → size ≡ None → (if t then size else None) ≡ None
no_size true size e = e
no_size false size e = refl

-- a word with too many bytes
bad_long : (word : List ℕ) → 42 < length word → IsBad word
bad_long word many = record {
  some = omega (arith, many);
  none = λ mark more. no_size (are_hex (word ++ more)) (size_of mark (length (word ++ more)))
      (too_many mark (length (word ++ more)) (omega (arith, many, length-append word more)));
}

no_item : (mark : Mark) (word : List ℕ) → IsBad word → item_of mark word ≡ Damage
no_item mark word bad =
    ap (λ size. whole_or_damage mark size word) (sym (ap (word_size mark) (append-nil word)) ∙ bad.none mark [])

bad_bare : (word : List ℕ) → IsBad word → bare word ≡ Damage ∷ []
bad_bare [] bad = absurd (omega (arith, bad.some))
bad_bare (b ∷ word) bad = ap (λ i. i ∷ []) (no_item Plain (b ∷ word) bad)

bad_stray : (word : List ℕ) → IsBad word → stray_word word ≡ Damage ∷ []
bad_stray [] bad = absurd (omega (arith, bad.some))
bad_stray (b ∷ word) bad = refl

-- the item of a word that cannot be a frame is damage, between any edges
bad_items : (opener : Option Mark) (word : List ℕ) (edge : Edge) → IsBad word → items_at opener word edge ≡ Damage ∷ []
bad_items (Some mark) word Closing bad = ap (λ i. i ∷ []) (no_item mark word bad)
bad_items (Some mark) word LineEnd bad = refl
bad_items (Some mark) word (Opening next) bad = refl
bad_items None word Closing bad = refl
bad_items None word LineEnd bad = bad_bare word bad
bad_items None word (Opening next) bad = bad_stray word bad

alike_at : (edge : Option Edge) (opener : Option Mark) (x y : List ℕ) (byte : ℕ) (more : List ℕ) → IsBad x → IsBad y
    → ((next : Option Mark) (v w : List ℕ) → IsBad v → IsBad w → avr_from next v more ≡ avr_from next w more)
    → items_before opener x edge ++ avr_from (opener_after opener edge) (word_after x byte edge) more
    ≡ items_before opener y edge ++ avr_from (opener_after opener edge) (word_after y byte edge) more
alike_at (Some edge) opener x y byte more p q next =
    ap (λ is. is ++ avr_from (opened_by edge) [] more) (bad_items opener x edge p ∙ sym (bad_items opener y edge q))
alike_at None opener x y byte more p q next = next opener (x ++ byte ∷ []) (y
    ++ byte ∷ []) (bad_more x byte p) (bad_more y byte q)

alike_end : (opener : Option Mark) (x y : List ℕ) → IsBad x → IsBad y → avr_from opener x [] ≡ avr_from opener y []
alike_end (Some mark) x y p q = refl
alike_end None x y p q = bad_bare x p ∙ sym (bad_bare y q)

alike : (more : List ℕ) (opener : Option Mark) (x y : List ℕ) → IsBad x → IsBad y
    → avr_from opener x more ≡ avr_from opener y more
alike [] opener x y p q = alike_end opener x y p q
alike (byte ∷ more) opener x y p q = alike_at (edge_of byte) opener x y byte more p q (alike more)

-- ---- a byte

pub after_byte : (opener : Option Mark) (word : List ℕ) (byte : ℕ) (more : List ℕ) (edge : Option Edge)
    → edge_of byte ≡ edge
    → avr_from opener word (byte ∷ more)
    ≡ items_before opener word edge ++ avr_from (opener_after opener edge) (word_after word byte edge) more
after_byte opener word byte more edge e =
    ap (λ k. items_before opener word k ++ avr_from (opener_after opener k) (word_after word byte k) more) e

-- a digit, while the word is not full
pub digit_room : (old new : BegunWord) (byte : ℕ) → edge_of byte ≡ None → old.is_bad ≡ false → new.opener ≡ old.opener
    → new.digits ≡ old.digits ++ byte ∷ [] → new.is_bad ≡ old.is_bad
    → Follows (avr_to_come old) (byte ∷ []) [] (avr_to_come new)
unfolding Follows
digit_room old new byte none good opener digits same more =
    after_byte old.opener (word_of old.digits old.is_bad) byte more None none
    ∙ ap (λ (t : Bool). avr_from old.opener (word_of old.digits t ++ byte ∷ []) more) good
    ∙ ap (λ w. avr_from old.opener (w ++ byte ∷ []) more) (append-nil old.digits)
    ∙ ap₂ (λ o w. avr_from o w more) (sym opener) (sym digits ∙ sym (append-nil new.digits))
    ∙ ap (λ (t : Bool). avr_from new.opener (word_of new.digits t) more) (sym (same ∙ good))

-- a byte that makes a word one that cannot be a frame
bad_now : (old new : BegunWord) (byte : ℕ) → edge_of byte ≡ None → IsBad (word_of old.digits old.is_bad ++ byte ∷ [])
    → new.opener ≡ old.opener → new.is_bad ≡ true
    → Follows (avr_to_come old) (byte ∷ []) [] (avr_to_come new)
unfolding Follows
bad_now old new byte none bad opener now more =
    after_byte old.opener (word_of old.digits old.is_bad) byte more None none
    ∙ alike more old.opener (word_of old.digits old.is_bad ++ byte ∷ []) (new.digits ++ 46 ∷ []) bad
    (bad_byte new.digits 46 refl)
    ∙ ap (λ o. avr_from o (new.digits ++ 46 ∷ []) more) (sym opener)
    ∙ ap (λ (t : Bool). avr_from new.opener (word_of new.digits t) more) (sym now)

pub still_bad : (old new : BegunWord) (byte : ℕ) → edge_of byte ≡ None → old.is_bad ≡ true → new.opener ≡ old.opener
    → new.is_bad ≡ true → Follows (avr_to_come old) (byte ∷ []) [] (avr_to_come new)
still_bad old new byte none was opener now =
    bad_now old new byte none
    (subst (λ (t : Bool). IsBad (word_of old.digits t ++ byte ∷ [])) (sym was)
    (bad_more (old.digits ++ 46 ∷ []) byte (bad_byte old.digits 46 refl))) opener now

good_word : (digits : List ℕ) (is_bad : Bool) → is_bad ≡ false → digits ≡ word_of digits is_bad
good_word digits is_bad good = sym (append-nil digits) ∙ ap (word_of digits) (sym good)

pub bad_digit : (old new : BegunWord) (byte : ℕ) → edge_of byte ≡ None → old.is_bad ≡ false → is_hex byte ≡ false
    → new.opener ≡ old.opener → new.is_bad ≡ true → Follows (avr_to_come old) (byte ∷ []) [] (avr_to_come new)
bad_digit old new byte none good hex opener now =
    bad_now old new byte none
    (subst (λ w. IsBad (w ++ byte ∷ [])) (good_word old.digits old.is_bad good)
    (bad_byte old.digits byte hex)) opener now

pub no_room : (old new : BegunWord) (byte : ℕ) → edge_of byte ≡ None → old.is_bad ≡ false → 42 ≤ length old.digits
    → new.opener ≡ old.opener → new.is_bad ≡ true → Follows (avr_to_come old) (byte ∷ []) [] (avr_to_come new)
no_room old new byte none good full opener now =
    bad_now old new byte none
    (subst (λ w. IsBad (w ++ byte ∷ [])) (good_word old.digits old.is_bad good)
    (bad_long (old.digits ++ byte ∷ []) (omega (arith, full, length-append old.digits (byte ∷ []))))) opener now

-- an edge
pub edge_ends : (old new : BegunWord) (byte : ℕ) (edge : Edge) (found : List Found) → edge_of byte ≡ Some edge
    → found ≡ items_at old.opener (word_of old.digits old.is_bad) edge → new.opener ≡ opened_by edge
    → word_of new.digits new.is_bad ≡ [] → Follows (avr_to_come old) (byte ∷ []) found (avr_to_come new)
unfolding Follows
edge_ends old new byte edge found e is opener word more =
    after_byte old.opener (word_of old.digits old.is_bad) byte more (Some edge) e
    ∙ ap (λ xs. xs ++ avr_from (opened_by edge) [] more) (sym is)
    ∙ ap₂ (λ o w. found ++ avr_from o w more) (sym opener) (sym word)

-- ---- items of words

all_hex : (digits : List ℕ) → AreHex digits → are_hex digits ≡ true
all_hex [] hex = refl
all_hex (d ∷ digits) (is, hex) = ap₂ (λ (s t : Bool). s && t) is (all_hex digits hex)

item_good : (mark : Mark) (digits : List ℕ) (is_bad : Bool) → is_bad ≡ false → AreHex digits
    → item_of mark (word_of digits is_bad) ≡ whole_or_damage mark (size_of mark (length digits)) digits
item_good mark digits is_bad good hex =
    ap (item_of mark) (sym (good_word digits is_bad good))
    ∙ ap (λ (t : Bool). whole_or_damage mark (if t then size_of mark (length digits)
    else None) digits) (all_hex digits hex)

pub item_whole : (mark : Mark) (digits : List ℕ) (is_bad : Bool) (size : Size) → is_bad ≡ false → AreHex digits
    → size_of mark (length digits) ≡ Some size
    → Whole (avr_message mark size (bytes_of digits)) ≡ item_of mark (word_of digits is_bad)
item_whole mark digits is_bad size good hex e =
    sym (item_good mark digits is_bad good hex ∙ ap (λ s. whole_or_damage mark s digits) e)

pub item_bad : (mark : Mark) (digits : List ℕ) (is_bad : Bool) → is_bad ≡ true
    → Damage ≡ item_of mark (word_of digits is_bad)
item_bad mark digits is_bad bad =
    sym (ap (λ (t : Bool). item_of mark (word_of digits t)) bad
    ∙ no_item mark (digits ++ 46 ∷ []) (bad_byte digits 46 refl))

pub bare_some : (word : List ℕ) → 0 < length word → item_of Plain word ∷ [] ≡ bare word
bare_some [] some = absurd (omega (arith, some))
bare_some (b ∷ word) some = refl

-- ---- frames that are written

clash : (byte other : ℕ) → is_hex byte ≡ true → is_hex other ≡ false → byte ≢ other
clash byte other hex none is = let both : true ≡ false = sym hex ∙ ap is_hex is ∙ none in cc

-- a digit is not a mark, and not an edge
mark_at : (byte : ℕ) → is_hex byte ≡ true → mark_of byte ≡ None
mark_at byte hex =
    ap₂ (λ (a b : Bool). if a || b then Some Plain
    else (if byte == 64 || byte == 37 then Some Clocked else (if byte == 60 then Some Signalled else None)))
    (ne_eqb byte 42 (clash byte 42 hex refl)) (ne_eqb byte 58 (clash byte 58 hex refl))
    ∙ ap₂ (λ (a b : Bool). if a || b then Some Clocked else (if byte == 60 then Some Signalled else None))
    (ne_eqb byte 64 (clash byte 64 hex refl)) (ne_eqb byte 37 (clash byte 37 hex refl))
    ∙ ap (λ (a : Bool). if a then Some Signalled else None) (ne_eqb byte 60 (clash byte 60 hex refl))

no_line_end : (byte : ℕ) → byte ≢ 10 → byte ≢ 13 → byte ≢ 0xEF → byte ≢ 0xBB → byte ≢ 0xBF → is_line_end byte ≡ false
no_line_end byte a b c d e =
    ap₂ (λ (s t : Bool). s || t || (byte == 0xEF) || (byte == 0xBB) || (byte == 0xBF)) (ne_eqb byte 10 a)
    (ne_eqb byte 13 b)
    ∙ ap₂ (λ (s t : Bool). s || t || (byte == 0xBF)) (ne_eqb byte 0xEF c) (ne_eqb byte 0xBB d) ∙ ne_eqb byte 0xBF e

digit_edge : (byte : ℕ) → is_hex byte ≡ true → edge_of byte ≡ None
digit_edge byte hex =
    ap (λ (a : Bool). if a then Some Closing else (if is_line_end byte then Some LineEnd else opening (mark_of byte)))
    (ne_eqb byte 59 (clash byte 59 hex refl))
    ∙ ap (λ (a : Bool). if a then Some LineEnd else opening (mark_of byte))
    (no_line_end byte (clash byte 10 hex refl) (clash byte 13 hex refl) (clash byte 0xEF hex refl)
    (clash byte 0xBB hex refl) (clash byte 0xBF hex refl))
    ∙ ap opening (mark_at byte hex)

-- digits are appended to the word
pub digits_go : (digits : List ℕ) (opener : Option Mark) (word more : List ℕ) → AreHex digits
    → avr_from opener word (digits ++ more) ≡ avr_from opener (word ++ digits) more
digits_go [] opener word more hex = ap (λ w. avr_from opener w more) (sym (append-nil word))
digits_go (d ∷ digits) opener word more (is, hex) =
    after_byte opener word d (digits ++ more) None (digit_edge d is)
    ∙ digits_go digits opener (word ++ d ∷ []) more hex
    ∙ ap (λ w. avr_from opener w more) (append_assoc word (d ∷ []) digits)

size_is : (mark : Mark) (size : Size) → size_of mark (2 * (lead mark + frame_len size)) ≡ Some size
size_is Plain TwoBytes = refl
size_is Plain SevenBytes = refl
size_is Plain FourteenBytes = refl
size_is Clocked TwoBytes = refl
size_is Clocked SevenBytes = refl
size_is Clocked FourteenBytes = refl
size_is Signalled TwoBytes = refl
size_is Signalled SevenBytes = refl
size_is Signalled FourteenBytes = refl

pub written_item : (mark : Mark) (size : Size) (digits : List ℕ) → AreHex digits
    → length digits ≡ 2 * (lead mark + frame_len size)
    → item_of mark digits ≡ Whole (avr_message mark size (bytes_of digits))
written_item mark size digits hex full =
    ap (λ (t : Bool). whole_or_damage mark (if t then size_of mark (length digits)
    else None) digits) (all_hex digits hex)
    ∙ ap (λ s. whole_or_damage mark s digits) (ap (size_of mark) full ∙ size_is mark size)

mark_is_edge : (byte : ℕ) (mark : Mark) → mark_of byte ≡ Some mark → edge_of byte ≡ Some (Opening mark)
mark_is_edge byte mark is =
    ap (λ (a : Bool). if a then Some Closing else (if is_line_end byte then Some LineEnd else opening (mark_of byte)))
    (ne_eqb byte 59 (λ e. differ 59 refl e))
    ∙ ap (λ (a : Bool). if a then Some LineEnd else opening (mark_of byte))
    (no_line_end byte (λ e. differ 10 refl e) (λ e. differ 13 refl e) (λ e. differ 0xEF refl e)
    (λ e. differ 0xBB refl e) (λ e. differ 0xBF refl e))
    ∙ ap opening is
  where
    differ : (other : ℕ) → mark_of other ≡ None → byte ≡ other → ⊥
    differ other none e = let both : Some mark ≡ None = sym is ∙ ap mark_of e ∙ none in cc

-- a frame after a mark
pub after_mark : (sent : AvrSent) → IsSent sent → (opener : Option Mark) (word more : List ℕ)
    → avr_from opener word (sent_text sent ++ more)
    ≡ items_at opener word (Opening sent.mark) ++ (sent_item sent ∷ avr_found more)
after_mark sent is opener word more =
    after_byte opener word sent.first ((sent.digits ++ 59 ∷ []) ++ more) (Some (Opening sent.mark))
    (mark_is_edge sent.first sent.mark is.is_mark)
    ∙ ap (λ xs. items_at opener word (Opening sent.mark) ++ xs)
    (ap (avr_from (Some sent.mark) []) (append_assoc sent.digits (59 ∷ []) more)
    ∙ digits_go sent.digits (Some sent.mark) [] (59 ∷ more) is.hex
    ∙ ap (λ i. i ∷ avr_found more) (written_item sent.mark sent.size sent.digits is.hex is.full))

pub sent_frame_is_found : SentFrameIsFound
unfolding Follows
sent_frame_is_found opener word [] sent is = (
  items_at opener word (Opening sent.mark),
  λ more. after_mark sent is opener word more
      ∙ sym (append_assoc (items_at opener word (Opening sent.mark)) (sent_item sent ∷ []) (avr_found more)),
)
sent_frame_is_found opener word (byte ∷ front) sent is =
    let edge = edge_of byte in
    let (before, rest) = sent_frame_is_found (opener_after opener edge) (word_after word byte edge) front sent is in (
      items_before opener word edge ++ before,
      λ more. ap (λ xs. items_before opener word edge ++ xs) (rest more)
          ∙ sym (append_assoc (items_before opener word edge) (before ++ sent_item sent ∷ []) (avr_found more))
          ∙ ap (λ xs. xs ++ avr_found more) (sym (append_assoc (items_before opener word edge) before
          (sent_item sent ∷ []))),
    )

bare_is : (word : List ℕ) (item : Found) → 0 < length word → item_of Plain word ≡ item → bare word ≡ item ∷ []
bare_is word item some is = sym (bare_some word some) ∙ ap (λ i. i ∷ []) is

frame_some : (size : Size) → 0 < frame_len size
frame_some TwoBytes = omega arith
frame_some SevenBytes = omega arith
frame_some FourteenBytes = omega arith

pub bare_frame_is_found : BareFrameIsFound
unfolding Follows
bare_frame_is_found size digits hex full more =
    ap avr_found (append_assoc digits (10 ∷ []) more)
    ∙ digits_go digits None [] (10 ∷ more) hex
    ∙ ap (λ is. is ++ avr_found more)
    (bare_is digits (Whole (avr_message Plain size (bytes_of digits))) (omega (arith, full, frame_some size))
    (written_item Plain size digits hex (omega (arith, full))))

-- ---- words that are checked digit by digit

pub hex_from : (word : List ℕ) (i : ℕ) → i < length word → is_hex (get_or word i 0) ≡ true
    → are_hex (drop i word) ≡ are_hex (drop (i + 1) word)
hex_from word i within is =
    ap are_hex (drop-cons word i 0 within) ∙ ap (λ (t : Bool). t && are_hex (drop (suc i) word)) is
    ∙ ap (λ n. are_hex (drop n word)) (sym (add-one i))

pub no_hex : (word : List ℕ) (i : ℕ) → i < length word → is_hex (get_or word i 0) ≡ false
    → are_hex (drop i word) ≡ false
no_hex word i within is =
    ap are_hex (drop-cons word i 0 within) ∙ ap (λ (t : Bool). t && are_hex (drop (suc i) word)) is

pub are_hex_each : (word : List ℕ) → are_hex word ≡ true → AreHex word
are_hex_each [] all = tt
are_hex_each (d ∷ word) all =
    let parts = and_parts (is_hex d) (are_hex word) all in (parts.0, are_hex_each word parts.1)

pub frame_sized : (word : List ℕ) (size : Option Size) → are_hex word ≡ true → size_of Plain (length word) ≡ size
    → framed size word ≡ frame_of_word word
frame_sized word size all is =
    ap (λ s. framed s word) (sym (ap (λ (t : Bool). if t then size_of Plain (length word) else None) all ∙ is))

-- a word of 28 digits is a long frame
pub long_frame : (word frame : List ℕ) → length word ≡ 28 → AreHex word × (frame ≡ bytes_of word)
    → Some (Long frame) ≡ frame_of_word word
long_frame word frame long (hex, same) =
    let fourteen : length (bytes_of word) ≡ 14 =
    length-map-range_with_len (byte_at word) 0 (length word / 2) ∙ ap (λ n. n / 2) long in
    ap (λ b. Some (Long b)) (same ∙ sym (take_all 14 (bytes_of word) (omega (arith, fourteen))))
    ∙ frame_sized word (Some FourteenBytes) (all_hex word hex) (ap (size_of Plain) long)
