-- Finding the format of a source.
use Rattle.std.proofs.Common.{◌≡◌, ◌-◌, ◌<◌, ◌≤◌, ◌++◌, ◌∙◌, ℕ, Bool, true, false, List, [], ◌∷◌, if◌then◌else◌, zero, suc, refl, sym, ap, ap₂, arith, subst, take, drop, length}
use Rattle.std.proofs.Common.{append_assoc, length-append}
use Rattle.std.proofs.lemmas.Bool.{eq-eqb, le-leb, lt-leb, ne_eqb}
use Rattle.std.proofs.lemmas.List.{drop-append-le, length-drop}
use Rattle.std.proofs.Math.Seq.{take-append_seam}
use Rattle.std.specs.Prelude.{◌==◌, IfNone, OnSome, Option, Some, None, option_to_list}
use Rattle.sq_feed.specs.declared.machine.Format.TheVariants.{Avr, Beast}
use Rattle.sq_feed.specs.declared.message.Found.{Found}
use Rattle.sq_feed.specs.declared.signs.Sign.{Sign}
use Rattle.sq_feed.specs.declared.signs.Sign.TheVariants.{Unclear, Shows, Other}
use Rattle.sq_feed.specs.Begun.{Begun, HoldWithRest, rest_of}
use Rattle.sq_feed.specs.Finding.{Finds, HasShown, Lines, beast_of, byte_sign, first_shown, in_turn, in_turn_after, is_beast}
use Rattle.sq_feed.specs.declared.message.Stranger.{Stranger}
use Rattle.sq_feed.specs.Finding.{begun_sign, line_sign, marked_sign, start_sign}
use Rattle.sq_feed.specs.Finding.{last_sign, limit, limit_sign, lines_after, named, remembered, shown_after, shown_by}
use Rattle.sq_feed.specs.Finding.{sign_within}
use Rattle.sq_feed.specs.Stream.{found_in}

in_turn-append : (count : ℕ) (xs ys : List Found) → in_turn count (xs ++ ys) ≡ in_turn (in_turn count xs) ys
in_turn-append count [] ys = refl
in_turn-append count (x ∷ xs) ys = in_turn-append (in_turn_after count x) xs ys

-- a call with one byte takes it
one_taken : (result : Option Found) (count : ℕ) → count ≤ 1 → IfNone result (count ≡ 1) → OnSome result (0 < count)
    → count ≡ 1
one_taken None count few all some = all
one_taken (Some found) count few all some = omega (arith, few, some)

-- the messages in a row after a byte of a Beast stream
turn_more : (count : ℕ) (found : List Found) (rest next : List ℕ) (byte : ℕ) (bytes : List ℕ)
    → HoldWithRest (rest ++ byte ∷ []) found next
    → in_turn (in_turn count found) (found_in (next ++ bytes)) ≡ in_turn count (found_in (rest ++ byte ∷ bytes))
unfolding HoldWithRest
turn_more count found rest next byte bytes held =
    sym (in_turn-append count found (found_in (next ++ bytes))) ∙ ap (in_turn count) (sym (held bytes))
    ∙ ap (λ l. in_turn count (found_in l)) (append_assoc rest (byte ∷ []) bytes)

-- the messages in a row after a deframer took one byte, by its state before and after
pub beast_more : (count : ℕ) (found : List Found) (old new : Begun) (byte : ℕ) (bytes : List ℕ) (result : Option Found)
    (taken : ℕ) → taken ≤ 1 → IfNone result (taken ≡ 1) → OnSome result (0 < taken) → option_to_list result ≡ found
    → HoldWithRest (rest_of old ++ take taken (byte ∷ [])) (option_to_list result) (rest_of new)
    → in_turn (in_turn count found) (found_in (rest_of new ++ bytes))
    ≡ in_turn count (found_in (rest_of old ++ byte ∷ bytes))
beast_more count found old new byte bytes result taken few all some is held =
    let one : taken ≡ 1 = one_taken result taken few all some in
    turn_more count found (rest_of old) (rest_of new) byte bytes
    (subst (λ l. HoldWithRest (rest_of old ++ byte ∷ []) l (rest_of new)) is
    (subst (λ k. HoldWithRest (rest_of old ++ take k (byte ∷ [])) (option_to_list result) (rest_of new)) one held))

-- two readings of the bytes to come show the same if they agree
pub shown_by-same : (f g : List ℕ → ℕ) (text : Lines) (bytes : List ℕ) → ((q : List ℕ) → f q ≡ g q)
    → shown_by f text bytes ≡ shown_by g text bytes
shown_by-same f g text [] same = ap (λ n. last_sign n text) (same [])
shown_by-same f g text (byte ∷ more) same =
    ap₂ (λ n (later : Sign). if is_beast n then Shows Beast
    else first_shown (byte_sign text byte) (sign_within (lines_after text byte) later)) (same (byte ∷ []))
    (shown_by-same (λ q. f (byte ∷ q)) (λ q. g (byte ∷ q)) (lines_after text byte) more (λ q. same (byte ∷ q)))

-- what the source shows after a byte
shown_more : (old mid : Finds) (byte : ℕ) (more : List ℕ) → ((q : List ℕ) → beast_of mid q ≡ beast_of old (byte ∷ q))
    → shown_after old (byte ∷ more)
    ≡ (if is_beast (beast_of mid []) then Shows Beast
    else first_shown (byte_sign old.text byte) (sign_within (lines_after old.text byte)
    (shown_by (beast_of mid) (lines_after old.text byte) more)))
shown_more old mid byte more same =
    ap₂ (λ n (later : Sign). if is_beast n then Shows Beast
    else first_shown (byte_sign old.text byte) (sign_within (lines_after old.text byte) later)) (sym (same []))
    (shown_by-same (λ q. beast_of old (byte ∷ q)) (beast_of mid) (lines_after old.text byte) more (λ q. sym (same q)))

-- a byte that shows Beast
pub beast_shown : (old mid new : Finds) (byte messages : ℕ)
    → ((q : List ℕ) → beast_of mid q ≡ beast_of old (byte ∷ q)) → messages ≡ beast_of mid [] → 2 ≤ messages
    → HasShown (Shows Beast) old (byte ∷ []) new
beast_shown old mid new byte messages same is enough = λ more.
    shown_more old mid byte more same
    ∙ ap (λ (b : Bool). if b then Shows Beast
    else first_shown (byte_sign old.text byte) (sign_within (lines_after old.text byte)
    (shown_by (beast_of mid) (lines_after old.text byte) more)))
    (le-leb 2 (beast_of mid []) (subst (λ n. 2 ≤ n) is enough))

-- the sign of a byte, if Beast is not shown
text_more : (old mid : Finds) (byte messages : ℕ) (more : List ℕ)
    → ((q : List ℕ) → beast_of mid q ≡ beast_of old (byte ∷ q)) → messages ≡ beast_of mid [] → messages < 2
    → shown_after old (byte ∷ more) ≡ first_shown (byte_sign old.text byte) (sign_within (lines_after old.text byte)
    (shown_by (beast_of mid) (lines_after old.text byte) more))
text_more old mid byte messages more same is few =
    shown_more old mid byte more same
    ∙ ap (λ (b : Bool). if b then Shows Beast
    else first_shown (byte_sign old.text byte) (sign_within (lines_after old.text byte)
    (shown_by (beast_of mid) (lines_after old.text byte) more)))
    (lt-leb 2 (beast_of mid []) (subst (λ n. n < 2) is few))

-- the sign at the limit, by the sign of the unfinished line
last_shown : (old new : Finds) (byte : ℕ) (last : Sign) (is_framed : Bool) (stranger : Stranger)
    → ((more : List ℕ) → shown_after old (byte ∷ more)
    ≡ first_shown last (if is_framed then Shows Avr else Other stranger))
    → HasShown (first_shown last (if is_framed then Shows Avr else Other stranger)) old (byte ∷ []) new
last_shown old new byte Unclear true stranger shows = shows
last_shown old new byte Unclear false stranger shows = shows
last_shown old new byte (Shows format) is_framed stranger shows = shows
last_shown old new byte (Other other) true stranger shows = shows
last_shown old new byte (Other other) false stranger shows = shows

limit_shown : (old new : Finds) (byte : ℕ) → ((more : List ℕ) → shown_after old (byte ∷ more) ≡ limit_sign new.text)
    → HasShown (limit_sign new.text) old (byte ∷ []) new
limit_shown old new byte = last_shown old new byte (begun_sign new.text) new.text.is_framed
    (named (remembered new.text.stranger (begun_sign new.text)))

-- the sign of a byte and that of the limit, whatever they are
by_signs : (old mid new : Finds) (byte : ℕ) (sign : Sign) (at_limit : Bool)
    → ((more : List ℕ) → shown_after old (byte ∷ more)
    ≡ first_shown sign (if at_limit then limit_sign new.text else shown_after new more))
    → HasShown (first_shown sign (if at_limit then limit_sign new.text else Unclear)) old (byte ∷ []) new
by_signs old mid new byte Unclear true shows = limit_shown old new byte shows
by_signs old mid new byte Unclear false shows = shows
by_signs old mid new byte (Shows format) at_limit shows = shows
by_signs old mid new byte (Other stranger) true shows = limit_shown old new byte shows
by_signs old mid new byte (Other stranger) false shows = shows

pub signs_shown : (old mid new : Finds) (byte messages : ℕ) (sign limit_is result : Sign)
    → ((q : List ℕ) → beast_of mid q ≡ beast_of old (byte ∷ q)) → messages ≡ beast_of mid [] → messages < 2
    → new.beast ≡ mid.beast → new.count ≡ mid.count → new.text ≡ lines_after old.text byte
    → new.text.count ≡ length new.held → sign ≡ byte_sign old.text byte
    → limit_is ≡ (if length new.held == limit then limit_sign new.text else Unclear)
    → result ≡ first_shown sign limit_is
    → HasShown result old (byte ∷ []) new
signs_shown old mid new byte messages sign limit_is result same is few beast count text held sign_is at is_result =
    subst (λ (s : Sign). HasShown s old (byte ∷ []) new)
    (sym (is_result ∙ ap (first_shown sign) at))
    (by_signs old mid new byte sign (length new.held == limit) (λ more.
    text_more old mid byte messages more same is few
    ∙ ap₂ (λ (s : Sign) (t : Lines). first_shown s (sign_within t (shown_by (beast_of mid) t more))) (sym sign_is)
    (sym text)
    ∙ ap (λ n. first_shown sign (if n == limit then limit_sign new.text
    else shown_by (beast_of mid) new.text more)) held
    ∙ ap (λ (s : Sign). first_shown sign (if length new.held == limit then limit_sign new.text else s))
    (shown_by-same (beast_of mid) (beast_of new) new.text more
    (λ q. ap₂ (λ (b : Begun) k. in_turn k (found_in (rest_of b ++ q))) (sym beast) (sym count)))))

-- ---- a loop over bytes

-- ---- the line so far

pub front_all : (xs : List ℕ) (x : ℕ) → take (length (xs ++ x ∷ []) - 1) (xs ++ x ∷ []) ≡ xs
front_all xs x =
    ap (λ n. take n (xs ++ x ∷ [])) (omega (arith, length-append xs (x ∷ []))) ∙ take-append_seam xs (x ∷ [])

-- the first line is as long as all bytes
is_first_line : (line count : ℕ) → line ≤ count → (line == 0) ≡ (count - line == count)
is_first_line zero count within = sym (eq-eqb (count - 0) count (omega arith))
is_first_line (suc line) count within =
    ne_eqb (suc line) 0 (λ same. absurd (omega (arith, same)))
    ∙ sym (ne_eqb (count - suc line) count (λ same. absurd (omega (arith, within, same))))

-- the sign of a byte, by the line with the byte
pub pushed_sign : (held all line : List ℕ) (from byte : ℕ) (is_framed : Bool) (stranger : Option Stranger)
    → from ≤ length held → all ≡ held ++ byte ∷ [] → line ≡ drop from all
    → (if byte == 10 then line_sign is_framed (take (length line - 1) line)
    else (if byte == 59 then marked_sign (take (length line - 1) line)
    else (if from == 0 then start_sign line else Unclear)))
    ≡ byte_sign (record {
      line = drop from held;
      count = length held;
      is_framed = is_framed;
      stranger = stranger;
    }) byte
pushed_sign held all line from byte is_framed stranger within is part =
    let whole : line ≡ drop from held ++ byte ∷ [] =
    part ∙ ap (drop from) is ∙ drop-append-le from held (byte ∷ []) within in
    ap₂ (λ (l : List ℕ) (b : Bool). if byte == 10 then line_sign is_framed (take (length l - 1) l)
    else (if byte == 59 then marked_sign (take (length l - 1) l) else (if b then start_sign l else Unclear)))
    whole (is_first_line from (length held) within ∙ ap (λ n. n == length held) (sym (length-drop from held)))
    ∙ ap (λ (l : List ℕ). if byte == 10 then line_sign is_framed l else (if byte == 59 then marked_sign l
    else (if length (drop from held) == length held then start_sign (drop from held ++ byte ∷ []) else Unclear)))
    (front_all (drop from held) byte)
