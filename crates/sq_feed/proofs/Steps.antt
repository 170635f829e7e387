-- The state of a deframer after more bytes.
use Rattle.std.proofs.Common.{◌≡◌, ◌≢◌, ◌+◌, ◌-◌, ◌<◌, ◌≤◌, ◌++◌, ◌∙◌, ℕ, suc, Bool, true, false, List, [], ◌∷◌, length, take, drop, get_or, map, ap}
use Rattle.std.proofs.lemmas.List.{take_all, take_more, length-take, length-drop}
use Rattle.std.proofs.Common.{ap₂, refl, sym, subst, arith, append_assoc, append-nil, take-add}
use Rattle.std.specs.Prelude.{Option, Some, None, if◌then◌else◌}
use Rattle.std.specs.List.{flat_map}
use Rattle.std.proofs.lemmas.Bool.{ne_eqb}
use Rattle.sq_feed.specs.declared.message.Size.{Size}
use Rattle.sq_feed.specs.declared.message.Size.TheVariants.{TwoBytes, SevenBytes, FourteenBytes}
use Rattle.sq_feed.specs.declared.message.Kind.{Kind}
use Rattle.sq_feed.specs.declared.message.Kind.TheVariants.{Message, Status, ReceiverId, Unknown}
use Rattle.sq_feed.specs.declared.message.Message.{Message as OneMessage}
use Rattle.sq_feed.specs.declared.message.Found.{Found}
use Rattle.sq_feed.specs.declared.message.Found.TheVariants.{Whole, Damage}
use Rattle.sq_feed.specs.Kinds.{kind_of, message_len, message_of}
use Rattle.sq_feed.specs.Begun.{Begun, Gives, HoldWithRest, IsUnfinished, begun_symbols, cut_off, rest_of}
use Rattle.sq_feed.specs.Begun.{type_byte}
use Rattle.sq_feed.specs.Stream.{AreSymbols, Byte, Start, Symbol, escape, found_after, found_at, found_in}
use Rattle.sq_feed.specs.Stream.{doubled, found_of, run, spelled, symbols_from}
use Rattle.sq_feed.proofs.Readings.{enough, from_spelled, kind_of_type, too_few}

-- ---- the rest as symbols

pub type_is_none : (size : Size) → type_byte size ≢ escape
type_is_none TwoBytes e = absurd (omega (arith, e))
type_is_none SevenBytes e = absurd (omega (arith, e))
type_is_none FourteenBytes e = absurd (omega (arith, e))

pub bytes_are : (held : List ℕ) → AreSymbols (map Byte held)
bytes_are [] = tt
bytes_are (b ∷ held) = (tt, bytes_are held)

begun_are : (kind : Option Kind) (held : List ℕ) → AreSymbols (begun_symbols kind held)
begun_are None held = tt
begun_are (Some (Message size)) held = (type_is_none size, bytes_are held)
begun_are (Some Status) held = (λ e. absurd (omega (arith, e)), tt)
begun_are (Some ReceiverId) held = (λ e. absurd (omega (arith, e)), tt)
begun_are (Some Unknown) held = (λ e. absurd (omega (arith, e)), tt)

after_escape : (is_escaped : Bool) (more : List ℕ)
    → symbols_from false ((if is_escaped then escape ∷ [] else []) ++ more) ≡ symbols_from is_escaped more
after_escape true more = refl
after_escape false more = refl

pub reads_rest : (begun : Begun) (more : List ℕ)
    → symbols_from false (rest_of begun ++ more) ≡ begun_symbols begun.kind begun.held
    ++ symbols_from begun.is_escaped more
reads_rest begun more =
    let symbols = begun_symbols begun.kind begun.held in
    let escaped : List ℕ = if begun.is_escaped then escape ∷ [] else [] in
    ap (symbols_from false) (append_assoc (flat_map spelled symbols) escaped more)
    ∙ from_spelled symbols (escaped ++ more) (begun_are begun.kind begun.held)
    ∙ ap (λ (ss : List Symbol). symbols ++ ss) (after_escape begun.is_escaped more)

-- ---- a byte

hold : (old new : Begun) (byte : ℕ) (found : List Found)
    → ((more : List ℕ) → found_of (begun_symbols old.kind old.held ++ symbols_from old.is_escaped (byte ∷ more))
    ≡ found ++ found_of (begun_symbols new.kind new.held ++ symbols_from new.is_escaped more))
    → HoldWithRest (rest_of old ++ byte ∷ []) found (rest_of new)
unfolding HoldWithRest
hold old new byte found h more =
    ap found_in (append_assoc (rest_of old) (byte ∷ []) more)
    ∙ ap found_of (reads_rest old (byte ∷ more))
    ∙ h more
    ∙ ap (λ (ss : List Symbol). found ++ found_of ss) (sym (reads_rest new more))

-- an escape that is the first of two, or comes before a type
pub escape_hold : (old new : Begun) (byte : ℕ) → old.is_escaped ≡ false → new.is_escaped ≡ true → byte ≡ escape
    → new.kind ≡ old.kind → new.held ≡ old.held → HoldWithRest (rest_of old ++ byte ∷ []) [] (rest_of new)
escape_hold old new byte was now is kind held = hold old new byte []
    (λ more. ap₂ (λ (a : Bool) (b : ℕ). found_of (begun_symbols old.kind old.held ++ symbols_from a (b ∷ more))) was is
    ∙ ap (λ (a : Bool). found_of (begun_symbols old.kind old.held ++ symbols_from a more)) (sym now)
    ∙ ap₂ (λ (k : Option Kind) (l : List ℕ). found_of (begun_symbols k l ++ symbols_from new.is_escaped more))
    (sym kind) (sym held))

-- a byte that is not an escape
pub byte_hold : (old new : Begun) (byte : ℕ) (found : List Found) → old.is_escaped ≡ false
    → new.is_escaped ≡ false → byte ≢ escape → Gives old (Byte byte) found new
    → HoldWithRest (rest_of old ++ byte ∷ []) found (rest_of new)
unfolding Gives
byte_hold old new byte found was now is gives = hold old new byte found
    (λ more. ap (λ (a : Bool). found_of (begun_symbols old.kind old.held ++ symbols_from a (byte ∷ more))) was
    ∙ ap (λ (t : Bool). found_of (begun_symbols old.kind old.held ++ ((if t then [] else Byte byte ∷ [])
    ++ symbols_from t more))) (ne_eqb byte escape is)
    ∙ gives (symbols_from false more)
    ∙ ap (λ (a : Bool). found ++ found_of (begun_symbols new.kind new.held ++ symbols_from a more)) (sym now))

-- the second of two escapes
pub doubled_hold : (old new : Begun) (byte : ℕ) (found : List Found) → old.is_escaped ≡ true
    → new.is_escaped ≡ false → byte ≡ escape → Gives old (Byte byte) found new
    → HoldWithRest (rest_of old ++ byte ∷ []) found (rest_of new)
unfolding Gives
doubled_hold old new byte found was now is gives = hold old new byte found
    (λ more. ap₂ (λ (a : Bool) (b : ℕ). found_of (begun_symbols old.kind old.held ++ symbols_from a (b ∷ more))) was is
    ∙ ap (λ (b : ℕ). found_of (begun_symbols old.kind old.held ++ Byte b ∷ symbols_from false more)) (sym is)
    ∙ gives (symbols_from false more)
    ∙ ap (λ (a : Bool). found ++ found_of (begun_symbols new.kind new.held ++ symbols_from a more)) (sym now))

-- a type byte
pub start_hold : (old new : Begun) (byte : ℕ) (found : List Found) → old.is_escaped ≡ true
    → new.is_escaped ≡ false → byte ≢ escape → Gives old (Start byte) found new
    → HoldWithRest (rest_of old ++ byte ∷ []) found (rest_of new)
unfolding Gives
start_hold old new byte found was now is gives = hold old new byte found
    (λ more. ap (λ (a : Bool). found_of (begun_symbols old.kind old.held ++ symbols_from a (byte ∷ more))) was
    ∙ ap (λ (t : Bool). found_of (begun_symbols old.kind old.held ++ ((if t then Byte escape else Start byte)
    ∷ symbols_from false more))) (ne_eqb byte escape is)
    ∙ gives (symbols_from false more)
    ∙ ap (λ (a : Bool). found ++ found_of (begun_symbols new.kind new.held ++ symbols_from a more)) (sym now))

-- ---- symbols

start_anew : (kind : Kind) (byte : ℕ) (more : List Symbol) → kind_of byte ≡ kind
    → found_of (Start byte ∷ more) ≡ found_of (begun_symbols (Some kind) [] ++ more)
start_anew (Message size) byte more e =
    ap (λ k. found_at k (run more) ++ found_after more) (e ∙ sym (kind_of_type size))
start_anew Status byte more e = ap (λ k. found_at k (run more) ++ found_after more) e
start_anew ReceiverId byte more e = ap (λ k. found_at k (run more) ++ found_after more) e
start_anew Unknown byte more e = ap (λ k. found_at k (run more) ++ found_after more) e

start_after : (kind : Option Kind) (held : List ℕ) (byte : ℕ) (more : List Symbol) → IsUnfinished kind held
    → found_of (begun_symbols kind held ++ Start byte ∷ more) ≡ cut_off kind ++ found_of (Start byte ∷ more)
start_after None held byte more few = refl
start_after (Some (Message size)) held byte more few = too_few size held byte more few
start_after (Some Status) held byte more few = refl
start_after (Some ReceiverId) held byte more few = refl
start_after (Some Unknown) held byte more few = refl

-- a start cuts off what was begun
pub start_gives : (old new : Begun) (byte : ℕ) (found : List Found) → IsUnfinished old.kind old.held
    → new.kind ≡ Some (kind_of byte) → new.held ≡ [] → found ≡ cut_off old.kind → Gives old (Start byte) found new
unfolding Gives
start_gives old new byte found few kind held is more =
    start_after old.kind old.held byte more few
    ∙ ap₂ (λ (xs ys : List Found). xs ++ ys) (sym is) (start_anew (kind_of byte) byte more refl
    ∙ ap₂ (λ k l. found_of (begun_symbols k l ++ more)) (sym kind) (sym held))

-- a byte after a status, or after an unknown start, is part of it
pub more_status : (old new : Begun) (byte : ℕ) → old.kind ≡ Some Status → new.kind ≡ Some Status
    → Gives old (Byte byte) [] new
unfolding Gives
more_status old new byte was now more =
    ap (λ k. found_of (begun_symbols k old.held ++ Byte byte ∷ more)) was
    ∙ ap (λ k. found_of (begun_symbols k new.held ++ more)) (sym now)

pub more_id : (old new : Begun) (byte : ℕ) → old.kind ≡ Some ReceiverId → new.kind ≡ Some ReceiverId
    → Gives old (Byte byte) [] new
unfolding Gives
more_id old new byte was now more =
    ap (λ k. found_of (begun_symbols k old.held ++ Byte byte ∷ more)) was
    ∙ ap (λ k. found_of (begun_symbols k new.held ++ more)) (sym now)

pub more_unknown : (old new : Begun) (byte : ℕ) → old.kind ≡ Some Unknown → new.kind ≡ Some Unknown
    → Gives old (Byte byte) [] new
unfolding Gives
more_unknown old new byte was now more =
    ap (λ k. found_of (begun_symbols k old.held ++ Byte byte ∷ more)) was
    ∙ ap (λ k. found_of (begun_symbols k new.held ++ more)) (sym now)

-- a byte that belongs to nothing is damage, and the bytes after it add none
pub stray_gives : (old new : Begun) (byte : ℕ) → old.kind ≡ None → new.kind ≡ Some Status
    → Gives old (Byte byte) (Damage ∷ []) new
unfolding Gives
stray_gives old new byte was now more =
    ap (λ k. found_of (begun_symbols k old.held ++ Byte byte ∷ more)) was
    ∙ ap (λ k. Damage ∷ found_of (begun_symbols k new.held ++ more)) (sym now)

one_more : (held : List ℕ) (byte : ℕ) (more : List Symbol)
    → map Byte held ++ Byte byte ∷ more ≡ map Byte (held ++ byte ∷ []) ++ more
one_more [] byte more = refl
one_more (b ∷ held) byte more = ap (λ ss. Byte b ∷ ss) (one_more held byte more)

-- a byte of a message that needs more bytes
pub more_gives : (old new : Begun) (size : Size) (byte : ℕ) → old.kind ≡ Some (Message size)
    → new.kind ≡ Some (Message size) → new.held ≡ old.held ++ byte ∷ [] → Gives old (Byte byte) [] new
unfolding Gives
more_gives old new size byte was now held more =
    ap (λ k. found_of (begun_symbols k old.held ++ Byte byte ∷ more)) was
    ∙ ap (λ ss. found_of (Start (type_byte size) ∷ ss)) (one_more old.held byte more)
    ∙ ap₂ (λ k l. found_of (begun_symbols k l ++ more)) (sym now) (sym held)

-- the last byte of a message
pub last_gives : (old new : Begun) (size : Size) (byte : ℕ) (message : OneMessage) → old.kind ≡ Some (Message size)
    → new.kind ≡ None → length (old.held ++ byte ∷ []) ≡ message_len size
    → message ≡ message_of size (old.held ++ byte ∷ []) → Gives old (Byte byte) (Whole message ∷ []) new
unfolding Gives
last_gives old new size byte message was now full is more =
    ap (λ k. found_of (begun_symbols k old.held ++ Byte byte ∷ more)) was
    ∙ ap (λ ss. found_of (Start (type_byte size) ∷ ss)) (one_more old.held byte more)
    ∙ enough size (old.held ++ byte ∷ []) more full
    ∙ ap₂ (λ m k. Whole m ∷ found_of (begun_symbols k new.held ++ more)) (sym is) (sym now)

-- ---- several bytes

pub hold_nothing : (bytes : List ℕ) → HoldWithRest (bytes ++ []) [] bytes
unfolding HoldWithRest
hold_nothing bytes more = ap (λ bs. found_in (bs ++ more)) (append-nil bytes)

pub hold_more : (a b r s : List ℕ) (ms ns : List Found) → HoldWithRest a ms r → HoldWithRest (r ++ b) ns s
    → HoldWithRest (a ++ b) (ms ++ ns) s
unfolding HoldWithRest
hold_more a b r s ms ns first second more =
    ap found_in (append_assoc a b more) ∙ first (b ++ more)
    ∙ ap (λ bs. ms ++ found_in bs) (sym (append_assoc r b more))
    ∙ ap (λ xs. ms ++ xs) (second more) ∙ sym (append_assoc ms ns (found_in (s ++ more)))

-- one more byte of a piece
pub hold_byte : (piece a r s : List ℕ) (at : ℕ) (ns : List Found) → at < length piece
    → HoldWithRest (a ++ take at piece) [] r → HoldWithRest (r ++ get_or piece at 0 ∷ []) ns s
    → HoldWithRest (a ++ take (at + 1) piece) ns s
hold_byte piece a r s at ns within first second =
    subst (λ bs. HoldWithRest bs ns s)
    (append_assoc a (take at piece) (get_or piece at 0 ∷ []) ∙ ap (λ bs. a ++ bs) (sym (take_more piece at 0 within)))
    (hold_more (a ++ take at piece) (get_or piece at 0 ∷ []) r s [] ns first second)

-- more bytes of a piece
pub hold_run : (piece a r s : List ℕ) (at count : ℕ) → HoldWithRest (a ++ take at piece) [] r
    → HoldWithRest (r ++ take count (take (length piece - at) (drop at piece))) [] s
    → HoldWithRest (a ++ take (at + count) piece) [] s
hold_run piece a r s at count first second =
    let back : take (length piece - at) (drop at piece) ≡ drop at piece =
    take_all (length piece - at) (drop at piece) (omega (arith, length-drop at piece)) in
    subst (λ bs. HoldWithRest bs [] s)
    (append_assoc a (take at piece) (take count (drop at piece)) ∙ ap (λ bs. a ++ bs) (sym (take-add at count piece)))
    (hold_more (a ++ take at piece) (take count (drop at piece)) r s [] [] first
    (subst (λ bs. HoldWithRest (r ++ take count bs) [] s) back second))

-- bytes that are no escapes are spelled as they are
spelled_plain : (bytes : List ℕ) → ((k : ℕ) → k < length bytes → get_or bytes k 0 ≢ escape)
    → flat_map spelled (map Byte bytes) ≡ bytes
spelled_plain [] plain = refl
spelled_plain (b ∷ bytes) plain =
    ap (λ (t : Bool). (if t then escape ∷ escape ∷ [] else b ∷ []) ++ flat_map spelled (map Byte bytes))
    (ne_eqb b escape (plain 0 (omega arith)))
    ∙ ap (λ bs. b ∷ bs) (spelled_plain bytes (λ k within. plain (suc k) (omega (arith, within))))

spelled_run : (held bytes : List ℕ) → ((k : ℕ) → k < length bytes → get_or bytes k 0 ≢ escape)
    → flat_map spelled (map Byte (held ++ bytes)) ≡ flat_map spelled (map Byte held) ++ bytes
spelled_run [] bytes plain = spelled_plain bytes plain
spelled_run (h ∷ held) bytes plain =
    ap (λ bs. doubled h ++ bs) (spelled_run held bytes plain)
    ∙ sym (append_assoc (doubled h) (flat_map spelled (map Byte held)) bytes)

-- bytes of a message, without an escape and without the message's last byte
pub plain_run : (old new : Begun) (size : Size) (bytes : List ℕ) → old.kind ≡ Some (Message size)
    → new.kind ≡ Some (Message size) → old.is_escaped ≡ false → new.is_escaped ≡ false → new.held ≡ old.held ++ bytes
    → ((k : ℕ) → k < length bytes → get_or bytes k 0 ≢ escape) → HoldWithRest (rest_of old ++ bytes) [] (rest_of new)
unfolding HoldWithRest
plain_run old new size bytes was now calm still held plain more =
    ap (λ bs. found_in (bs ++ more)) (sym rest_is)
  where
    rest_at : (begun : Begun) → begun.kind ≡ Some (Message size) → begun.is_escaped ≡ false
        → rest_of begun ≡ escape ∷ type_byte size ∷ flat_map spelled (map Byte begun.held)
    rest_at begun is none =
        ap₂ (λ k (t : Bool). flat_map spelled (begun_symbols k begun.held) ++ (if t then escape ∷ [] else [])) is none
        ∙ append-nil (escape ∷ type_byte size ∷ flat_map spelled (map Byte begun.held))

    rest_is : rest_of new ≡ rest_of old ++ bytes
    rest_is =
        rest_at new now still
        ∙ ap (λ l. escape ∷ type_byte size ∷ flat_map spelled (map Byte l)) held
        ∙ ap (λ bs. escape ∷ type_byte size ∷ bs) (spelled_run old.held bytes plain)
        ∙ ap (λ bs. bs ++ bytes) (sym (rest_at old was calm))

-- ---- a whole message

plain_symbols : (bytes more : List ℕ) → ((k : ℕ) → k < length bytes → get_or bytes k 0 ≢ escape)
    → symbols_from false (bytes ++ more) ≡ map Byte bytes ++ symbols_from false more
plain_symbols [] more plain = refl
plain_symbols (b ∷ bytes) more plain =
    ap (λ (t : Bool). (if t then [] else Byte b ∷ []) ++ symbols_from t (bytes ++ more))
    (ne_eqb b escape (plain 0 (omega arith)))
    ∙ ap (λ ss. Byte b ∷ ss) (plain_symbols bytes more (λ k within. plain (suc k) (omega (arith, within))))

named : (byte : ℕ) (size : Size) → kind_of byte ≡ Message size → byte ≢ escape
named byte size e is = let none : Unknown ≡ Message size = sym (ap kind_of is) ∙ e in cc

-- an escape, a type byte, and as many bytes as the type needs, without an escape, are a whole message
pub whole_hold : (byte : ℕ) (size : Size) (bytes : List ℕ) → kind_of byte ≡ Message size
    → length bytes ≡ message_len size → ((k : ℕ) → k < length bytes → get_or bytes k 0 ≢ escape)
    → HoldWithRest (escape ∷ byte ∷ bytes) (Whole (message_of size bytes) ∷ []) []
unfolding HoldWithRest
whole_hold byte size bytes is full plain more =
    ap (λ (t : Bool). found_of ((if t then Byte escape else Start byte) ∷ symbols_from false (bytes ++ more)))
    (ne_eqb byte escape (named byte size is))
    ∙ ap (λ ss. found_of (Start byte ∷ ss)) (plain_symbols bytes more plain)
    ∙ ap (λ k. found_at k (run (map Byte bytes ++ symbols_from false more))
    ++ found_after (map Byte bytes ++ symbols_from false more)) (is ∙ sym (kind_of_type size))
    ∙ enough size bytes (symbols_from false more) full

front_is : (piece : List ℕ) (n : ℕ) → 2 ≤ length piece → get_or piece 0 0 ≡ escape
    → take (2 + n) piece ≡ escape ∷ get_or piece 1 0 ∷ take (2 + n - 2) (drop 2 piece)
front_is [] n short is = absurd (omega arith)
front_is (a ∷ []) n short is = absurd (omega arith)
front_is (a ∷ b ∷ rest) n short is =
    let two : 2 + n ≡ suc (suc n) = omega arith in
    let back : n ≡ 2 + n - 2 = omega arith in
    ap (λ m. take m (a ∷ b ∷ rest)) two ∙ ap₂ (λ e m. e ∷ b ∷ take m rest) is back

-- a whole message without an escape among its bytes, at the front of a piece
pub front_hold : (piece : List ℕ) (size : Size) (count : ℕ) → kind_of (get_or piece 1 0) ≡ Message size
    → count ≡ message_len size → 2 + count ≤ length piece → get_or piece 0 0 ≡ escape
    → ((k : ℕ) → k < length (take (2 + count - 2) (drop 2 piece))
    → get_or (take (2 + count - 2) (drop 2 piece)) k 0 ≢ escape)
    → HoldWithRest (take (2 + count) piece) (Whole (message_of size (take (2 + count - 2) (drop 2 piece))) ∷ []) []
front_hold piece size count is wanted within first plain =
    let bytes = take (2 + count - 2) (drop 2 piece) in
    let full : length bytes ≡ message_len size =
    omega (arith, length-take (2 + count - 2) (drop 2 piece), length-drop 2 piece) in
    subst (λ bs. HoldWithRest bs (Whole (message_of size bytes) ∷ []) []) (sym (front_is piece count
    (omega arith) first))
    (whole_hold (get_or piece 1 0) size bytes is full plain)
