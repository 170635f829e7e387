-- The items of a stream, piece by piece.
use Rattle.std.proofs.Common.{◌≡◌, ◌+◌, ◌<◌, ◌≤◌, ◌++◌, ◌∙◌, ℕ, Bool, true, false, List, [], ◌∷◌, length, take, drop, map, ap, ap₂}
use Rattle.std.proofs.Common.{refl, sym, arith, append_assoc, length-append}
use Rattle.std.specs.Prelude.{◌==◌, nat_le, if◌then◌else◌}
use Rattle.std.specs.List.{flat_map}
use Rattle.std.specs.Int.Digits.{number_from_digits}
use Rattle.std.proofs.lemmas.Bool.{ne_eqb, eqb-true, lt-leb, le-leb}
use Rattle.std.proofs.Math.Seq.{drop-append_seam}
use Rattle.std.proofs.lemmas.List.{take-append-le, drop-append-le, length-drop}
use Rattle.sq_feed.specs.declared.message.Size.{Size}
use Rattle.sq_feed.specs.declared.message.Size.TheVariants.{TwoBytes, SevenBytes, FourteenBytes}
use Rattle.sq_feed.specs.declared.message.Kind.TheVariants.{Message}
use Rattle.sq_feed.specs.declared.message.Message.{Message as OneMessage}
use Rattle.sq_feed.specs.declared.message.Time.TheVariants.{Ticks}
use Rattle.sq_feed.specs.declared.message.Found.{Found}
use Rattle.sq_feed.specs.declared.message.Found.TheVariants.{Whole, Damage}
use Rattle.sq_feed.specs.Begun.{type_byte}
use Rattle.sq_feed.specs.Kinds.{frame_len, frame_of, kind_of, message_len, message_of}
use Rattle.sq_feed.specs.Stream.{AreSymbols, Byte, Start, Symbol, doubled, escape, found_after, found_at}
use Rattle.sq_feed.specs.Stream.{found_of, run, spelled, stray, symbols_from}

-- ---- symbols

-- an escape that is doubled, or another byte, is read as the byte
from_doubled : (byte : ℕ) (test : Bool) (more : List ℕ) → (byte == escape) ≡ test
    → symbols_from false (doubled byte ++ more) ≡ Byte byte ∷ symbols_from false more
from_doubled byte true more e =
    ap (λ (t : Bool). symbols_from false ((if t then escape ∷ escape ∷ [] else byte ∷ []) ++ more)) e
    ∙ ap (λ b. Byte b ∷ symbols_from false more) (sym (eqb-true byte escape e))
from_doubled byte false more e =
    ap (λ (t : Bool). symbols_from false ((if t then escape ∷ escape ∷ [] else byte ∷ []) ++ more)) e
    ∙ ap (λ (t : Bool). (if t then [] else Byte byte ∷ []) ++ symbols_from t more) e

-- reading encoded symbols gives them back
pub from_spelled : (symbols : List Symbol) (more : List ℕ) → AreSymbols symbols
    → symbols_from false (flat_map spelled symbols ++ more) ≡ symbols ++ symbols_from false more
from_spelled [] more each = refl
from_spelled (Start kind ∷ symbols) more (is, each) =
    ap₂ (λ (t : Bool) (ss : List Symbol). (if t then Byte escape else Start kind) ∷ ss) (ne_eqb kind escape is)
    (from_spelled symbols more each)
from_spelled (Byte byte ∷ symbols) more (is, each) =
    ap (symbols_from false) (append_assoc (doubled byte) (flat_map spelled symbols) more)
    ∙ from_doubled byte (byte == escape) (flat_map spelled symbols ++ more) refl
    ∙ ap (λ (ss : List Symbol). Byte byte ∷ ss) (from_spelled symbols more each)

-- ---- messages

pub run_bytes : (held : List ℕ) (more : List Symbol) → run (map Byte held ++ more) ≡ held ++ run more
run_bytes [] more = refl
run_bytes (b ∷ held) more = ap (λ xs. b ∷ xs) (run_bytes held more)

pub no_start : (held : List ℕ) (more : List Symbol) → found_after (map Byte held ++ more) ≡ found_after more
no_start [] more = refl
no_start (b ∷ held) more = no_start held more

pub kind_of_type : (size : Size) → kind_of (type_byte size) ≡ Message size
kind_of_type TwoBytes = refl
kind_of_type SevenBytes = refl
kind_of_type FourteenBytes = refl

-- the start of a message with too few bytes before the next one is damage
pub too_few : (size : Size) (held : List ℕ) (next : ℕ) (more : List Symbol) → length held < message_len size
    → found_of (Start (type_byte size) ∷ map Byte held ++ Start next ∷ more) ≡ Damage ∷ found_of (Start next ∷ more)
too_few size held next more few =
    let none : nat_le (message_len size) (length (held ++ []))
    ≡ false = lt-leb _ _ (omega (arith, length-append held [])) in
    ap₂ (λ (ms ns : List Found). ms ++ ns)
    (ap₂ found_at (kind_of_type size) (run_bytes held (Start next ∷ more))
    ∙ ap (λ (t : Bool). if t then Whole (message_of size (held ++ [])) ∷ stray (drop (message_len size) (held ++ []))
    else Damage ∷ []) none)
    (no_start held (Start next ∷ more))

-- the start of a message with too few bytes before the end of the stream is damage
pub end_too_few : (size : Size) (held : List ℕ) → length held < message_len size
    → found_of (Start (type_byte size) ∷ map Byte held ++ []) ≡ Damage ∷ []
end_too_few size held few =
    let none : nat_le (message_len size) (length (held ++ []))
    ≡ false = lt-leb _ _ (omega (arith, length-append held [])) in
    ap₂ (λ (ms ns : List Found). ms ++ ns)
    (ap₂ found_at (kind_of_type size) (run_bytes held [])
    ∙ ap (λ (t : Bool). if t then Whole (message_of size (held ++ [])) ∷ stray (drop (message_len size) (held ++ []))
    else Damage ∷ []) none)
    (no_start held [])

take_held : (n : ℕ) (held more : List ℕ) → n ≤ length held → take n (held ++ more) ≡ take n held
take_held n held more le = take-append-le n held more le

frame_held : (n : ℕ) (held more : List ℕ) → length held ≡ 7 + n → take n (drop 7 (held ++ more)) ≡ take n (drop 7 held)
frame_held n held more full =
    ap (take n) (drop-append-le 7 held more (omega arith))
    ∙ take-append-le n (drop 7 held) more (omega (arith, length-drop 7 held))

-- what follows the bytes of a message does not change it
message_of-front : (size : Size) (held more : List ℕ) → length held ≡ message_len size
    → message_of size (held ++ more) ≡ message_of size held
message_of-front size held more full = λ i. record {
  time = Ticks (number_from_digits 256 (take_held 6 held more (omega (arith, full)) i));
  frame = frame_of size (frame_held (frame_len size) held more full i);
}

drop_held : (n : ℕ) (held more : List ℕ) → length held ≡ n → drop n (held ++ more) ≡ more
drop_held n held more full = ap (λ k. drop k (held ++ more)) (sym full) ∙ drop-append_seam held more

-- a start with as many bytes as it needs is a message, whatever follows
pub enough : (size : Size) (held : List ℕ) (more : List Symbol) → length held ≡ message_len size
    → found_of (Start (type_byte size) ∷ map Byte held ++ more) ≡ Whole (message_of size held) ∷ found_of more
enough size held more full =
    let some : nat_le (message_len size) (length (held ++ run more)) ≡ true =
    le-leb _ _ (omega (arith, length-append held (run more))) in
    ap₂ (λ (ms ns : List Found). ms ++ ns)
    (ap₂ found_at (kind_of_type size) (run_bytes held more)
    ∙ ap (λ (t : Bool). if t then Whole (message_of size (held ++ run more))
    ∷ stray (drop (message_len size) (held ++ run more)) else Damage ∷ []) some
    ∙ ap₂ (λ (m : OneMessage) (xs : List ℕ). Whole m ∷ stray xs) (message_of-front size held (run more) full)
    (drop_held (message_len size) held (run more) full))
    (no_start held more)
