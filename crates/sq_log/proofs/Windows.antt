-- Places in a window, and lines that are passed over.
use Rattle.std.proofs.Common.{◌≡◌, ◌+◌, ◌-◌, ◌/◌, ◌^◌, ◌<◌, ◌≤◌, ◌++◌, ◌∙◌, inl, inr, ℕ, List, [], ◌∷◌, length}
use Rattle.std.proofs.Common.{take, drop, ap, sym, subst, arith, append_assoc, append-nil, take-append-drop, Bool, cond, get_or, nat_eq, false, refl, true}
use Rattle.std.proofs.Common.{length-append}
use Rattle.std.specs.List.{before_first, position_or_len}
use Rattle.std.proofs.lemmas.Bool.{cases_Bool, eq-eqb, ne_eqb}
use Rattle.std.proofs.lemmas.List.{drop-drop, drop-take, drop_all, drop_at, length-drop, length-take, take-take}
use Rattle.std.proofs.lemmas.Simd.{length-put_chunk, put_chunk_whole}
use Rattle.std.proofs.lemmas.List.Elements.{All-nil}
use Rattle.std.proofs.lemmas.List.Sums.{passes_at_first}
use Rattle.std.proofs.lemmas.Slice.{between-put_mid, take-put_mid_below}
use lib.Lanes.{chunk, put_chunk}
use borrow.Rule.Slice.PartMut.{mid_of, put_mid}
use Rattle.sq_devices.specs.Device.{IsPrefixOf}
use Rattle.sq_log.specs.Rests.{IsHeldAs, KeepsRest}
use Rattle.sq_log.specs.Lines.{Cuts, HasNoFeed, MarksFeeds, closed, ended_lines, is_feed, last_part, lines_of, with_feed}
use Rattle.sq_log.specs.Windows.{between}
use Rattle.sq_log.proofs.Cutting.{cuts_ended, cuts_itself, cuts_more, ended_lines-append, ended_lines-cut, last_part-cut}
use Rattle.sq_log.proofs.FeedMarks.{marks_after, marks_front}
use Rattle.sq_log.proofs.Feeds.{before_has_none, through_first}
use Rattle.sq_log.proofs.Fronts.{held_by, held_on, none_held, part_is, part_on, slid, some_held}

abbrev place : List ℕ → ℕ
place piece = position_or_len is_feed piece

-- the marks from behind a line feed on
pub marks_on : (bytes : List ℕ) (at last here feeds : ℕ) → at + here + 1 ≤ last
    → MarksFeeds feeds (between at last bytes)
    → MarksFeeds (feeds / 2 ^ here / 2) (between (at + here + 1) last bytes)
marks_on bytes at last here feeds within marked =
    subst (MarksFeeds (feeds / 2 ^ here / 2)) (part_is bytes (at + here + 1) last within)
    (marks_after (take last bytes) at here feeds
    (subst (MarksFeeds feeds) (sym (part_is bytes at last (omega (arith, within)))) marked))

pub length-between : (begin end : ℕ) (bytes : List ℕ) → begin ≤ end → end ≤ length bytes
    → length (between begin end bytes) ≡ end - begin
length-between begin end bytes first within =
    omega (arith, length-take (end - begin) (drop begin bytes), length-drop begin bytes)

-- what waits behind a place among what waits
pub waits_on : (bytes : List ℕ) (at last here : ℕ) → at + here ≤ last
    → between (at + here) last bytes ≡ drop here (between at last bytes)
waits_on bytes at last here within =
    let far : last - at ≡ here + (last - (at + here)) = omega (arith, within) in
    sym (ap (λ n. drop here (take n (drop at bytes))) far
    ∙ drop-take here (last - (at + here)) (drop at bytes)
    ∙ ap (take (last - (at + here))) (drop-drop here at bytes))

-- the line up to the first line feed that waits
pub line_to : (bytes : List ℕ) (begin at last here : ℕ) → begin ≤ at → at + here ≤ last
    → here ≡ place (between at last bytes)
    → between begin (at + here) bytes ≡ between begin at bytes ++ before_first is_feed (between at last bytes)
line_to bytes begin at last here first within is =
    part_on bytes begin at here first
    ∙ ap (λ l. between begin at bytes ++ l)
    (sym (take-take here (last - at) (drop at bytes) (omega (arith, within)))
    ∙ ap (λ n. take n (between at last bytes)) is)

-- ---- what is put behind the front

pub behind_put : (k count : ℕ) (xs ys : List ℕ) → 65 ≤ length xs → length ys ≡ count
    → between 65 (65 + count) (put_mid 65 k xs ys) ≡ ys
behind_put k count xs ys there long =
    between-put_mid 65 k xs ys (65 + count) there (omega (arith, long))

-- of what was got, so many bytes
pub got_behind : (xs ys : List ℕ) → length xs ≡ 129 → drop 65 (put_mid 65 64 xs ys) ≡ ys
got_behind xs ys all =
    let front : length (take 65 xs) ≡ 65 = omega (arith, all, length-take 65 xs) in
    drop_at (take 65 xs) (ys ++ drop 64 (drop 65 xs)) 65 front
    ∙ ap (λ l. ys ++ l) (drop_all 64 (drop 65 xs) (omega (arith, all, length-drop 65 xs))) ∙ append-nil ys

pub front_put : (k begin : ℕ) (xs ys : List ℕ) → 65 ≤ length xs → begin ≤ 65
    → between begin 65 (put_mid 65 k xs ys) ≡ between begin 65 xs
front_put k begin xs ys there first =
    sym (part_is (put_mid 65 k xs ys) begin 65 first)
    ∙ ap (drop begin) (take-put_mid_below 65 k xs ys 65 (omega arith) there)
    ∙ part_is xs begin 65 first

-- a whole piece
pub whole_put : (xs piece : List ℕ) → length xs ≡ 129 → 64 ≤ length piece
    → put_chunk 0 (mid_of 65 64 xs) (chunk 0 64 piece) ≡ take 64 piece
whole_put xs piece all long =
    put_chunk_whole (take 64 (drop 65 xs)) (take 64 piece)
    (omega (arith, all, long, length-take 64 (drop 65 xs), length-drop 65 xs, length-take 64 piece))

-- the marks of the first bytes
pub marks_part : (bytes : List ℕ) (count feeds : ℕ) → count ≤ 64 → MarksFeeds feeds (take 64 (drop 65 bytes))
    → MarksFeeds feeds (between 65 (65 + count) bytes)
marks_part bytes count feeds few marked =
    let same : count ≡ 65 + count - 65 = omega arith in
    subst (MarksFeeds feeds) (take-take count 64 (drop 65 bytes) few ∙ ap (λ n. take n (drop 65 bytes)) same)
    (marks_front (take 64 (drop 65 bytes)) count feeds marked)

-- ---- a window that slides

pub window_slid : (xs ys : List ℕ) (count begin at next : ℕ) → length xs ≡ 129 → count ≤ 64 → begin ≤ at
    → at ≤ 65 + count
    → ys ≡ put_chunk 0 (mid_of 1 64 xs) (chunk 0 64 (mid_of (count + 1) (count + 65 - (count + 1)) xs))
    → next ≡ begin - count
    → IsHeldAs (between next 65 (put_mid 1 64 xs ys)) (between begin at xs ++ between at (65 + count) xs)
window_slid xs ys count begin at next all few first within is from =
    let far : at + (65 + count - at) ≡ 65 + count = omega (arith, within) in
    let whole : drop begin (take (65 + count) xs) ≡ between begin at xs ++ between at (65 + count) xs =
    part_is xs begin (65 + count) (omega (arith, first, within))
    ∙ ap (λ n. take (n - begin) (drop begin xs)) (sym far) ∙ part_on xs begin at (65 + count - at) first in
    subst (λ l. IsHeldAs l (between begin at xs ++ between at (65 + count) xs))
    (part_is (put_mid 1 64 xs ys) next 65 (omega (arith, from, first, within)))
    (subst (IsHeldAs (drop next (take 65 (put_mid 1 64 xs ys)))) whole
    (slid xs ys count begin next all few (omega (arith, first, within)) is from))

-- ---- lines that are passed over

pub line_passed : (line waiting next given : List ℕ) (lines : List (List ℕ)) → KeepsRest line waiting given lines
    → place waiting < length waiting → next ≡ drop (place waiting + 1) waiting
    → (whole : List ℕ) × KeepsRest [] next given (lines ++ whole ∷ [])
    × IsHeldAs (line ++ before_first is_feed waiting) whole
line_passed line waiting next given lines from there is =
    let front : List ℕ = before_first is_feed waiting in
    let through : List ℕ = take (place waiting + 1) waiting in (
      from.rest ++ front,
      record {
        read = from.read ++ through;
        rest = [];
        whole = from.whole
            ∙ ap (λ l. from.read ++ l) (sym (take-append-drop (place waiting + 1) waiting))
            ∙ sym (append_assoc from.read through (drop (place waiting + 1) waiting))
            ∙ ap (λ l. (from.read ++ through) ++ l) (sym is);
        cut = subst (λ (l : List ℕ). Cuts (from.read ++ l) (lines ++ (from.rest ++ front) ∷ []) [])
            (sym (through_first waiting there))
            (cuts_ended from.read lines from.rest front from.cut (before_has_none waiting));
        held = inl refl;
      },
      held_on line from.rest front from.held,
    )

-- what waits has no line feed, and more is taken
pub more_taken : (line waiting next more given : List ℕ) (lines : List (List ℕ)) → KeepsRest line waiting given lines
    → HasNoFeed waiting → IsHeldAs next (line ++ waiting) → KeepsRest next more (given ++ more) lines
more_taken line waiting next more given lines from none held = record {
  read = given;
  rest = from.rest ++ waiting;
  whole = refl;
  cut = subst (λ (l : List ℕ). Cuts l lines (from.rest ++ waiting)) (sym from.whole)
      (cuts_more from.read lines from.rest waiting from.cut none);
  held = held_by next (line ++ waiting) (from.rest ++ waiting) held (held_on line from.rest waiting from.held);
}

-- a line feed waits that stands in what waits
pub some_feed : (waiting : List ℕ) → place waiting < length waiting → HasNoFeed waiting → ⊥
some_feed waiting there none =
    let is : is_feed (get_or waiting (place waiting) 0) ≡ true = passes_at_first is_feed waiting 0 there in
    let isnt : is_feed (get_or waiting (place waiting) 0) ≡ false = none (place waiting) 0 there in
    cc

-- ---- the end

-- the rest is what stands behind the last line feed
last_is : (line waiting given : List ℕ) (lines : List (List ℕ)) (from : KeepsRest line waiting given lines)
    → waiting ≡ [] → last_part given ≡ from.rest
last_is line waiting given lines from none =
    ap last_part (from.whole ∙ ap (λ l. from.read ++ l) none ∙ append-nil from.read)
    ∙ last_part-cut from.read lines from.rest from.cut

pub closed_line : (line waiting given : List ℕ) (lines : List (List ℕ)) → KeepsRest line waiting given lines
    → waiting ≡ [] → 0 < length line → KeepsRest line (10 ∷ []) (closed given) lines
closed_line line waiting given lines from none some =
    let long : 0 < length from.rest = some_held line from.rest from.held some in
    let is : closed given ≡ with_feed given =
    ap (λ (n : List ℕ). cond (nat_eq (length n) 0) given (with_feed given)) (last_is line waiting given lines from none)
    ∙ ap (λ (t : Bool). cond t given (with_feed given))
    (ne_eqb (length from.rest) 0 (λ e. absurd (omega (arith, e, long)))) in
    subst (λ (l : List ℕ). KeepsRest line (10 ∷ []) l lines) (sym is) (record {
      read = from.read;
      rest = from.rest;
      whole = ap (λ l. l ++ 10 ∷ []) (from.whole ∙ ap (λ l. from.read ++ l) none ∙ append-nil from.read);
      cut = from.cut;
      held = from.held;
    })

pub closed_none : (line waiting given : List ℕ) (lines : List (List ℕ)) → KeepsRest line waiting given lines
    → waiting ≡ [] → length line ≡ 0 → KeepsRest line waiting (closed given) lines
closed_none line waiting given lines from none empty =
    let short : length from.rest ≡ 0 = none_held line from.rest from.held empty in
    let is : closed given ≡ given =
    ap (λ (n : List ℕ). cond (nat_eq (length n) 0) given (with_feed given)) (last_is line waiting given lines from none)
    ∙ ap (λ (t : Bool). cond t given (with_feed given)) (eq-eqb (length from.rest) 0 short) in
    subst (λ (l : List ℕ). KeepsRest line waiting l lines) (sym is) from

-- as long as it was
pub length-slid : (xs part : List ℕ) → length xs ≡ 129
    → length (put_mid 1 64 xs (put_chunk 0 (mid_of 1 64 xs) part)) ≡ 129
length-slid xs part all =
    let put : List ℕ = put_chunk 0 (mid_of 1 64 xs) part in
    omega (
      arith,
      all,
      length-append (take 1 xs) (put ++ drop 64 (drop 1 xs)),
      length-append put (drop 64 (drop 1 xs)),
      length-put_chunk 0 (mid_of 1 64 xs) part,
      length-take 1 xs,
      length-take 64 (drop 1 xs),
      length-drop 1 xs,
      length-drop 64 (drop 1 xs),
    )

-- the lines that were passed over are the first that line feeds end
pub passed_first : (line waiting given : List ℕ) (lines : List (List ℕ)) → KeepsRest line waiting given lines
    → IsPrefixOf lines (ended_lines given)
passed_first line waiting given lines from =
    let longer = ended_lines-append from.read waiting in (
      longer.0,
      ap ended_lines from.whole ∙ longer.1
          ∙ ap (λ (ls : List (List ℕ)). ls ++ longer.0) (ended_lines-cut from.read lines from.rest from.cut),
    )

-- where no line feed waits, they are all of them
pub passed_all : (line waiting given : List ℕ) (lines : List (List ℕ)) → KeepsRest line waiting given lines
    → HasNoFeed waiting → lines ≡ ended_lines given
passed_all line waiting given lines from none =
    sym (ap ended_lines from.whole
    ∙ ended_lines-cut (from.read ++ waiting) lines (from.rest ++ waiting)
    (cuts_more from.read lines from.rest waiting from.cut none))

-- the lines of an input with a line feed at its end
pub ended_lines-closed : (given : List ℕ) → ended_lines (closed given) ≡ lines_of given
ended_lines-closed given =
    elim (cases_Bool (nat_eq (length (last_part given)) 0)) [
      | inl empty ↦
          ap (λ (t : Bool). ended_lines (cond t given (with_feed given))) empty
          ∙ sym (append-nil (ended_lines given))
          ∙ ap (λ (t : Bool). ended_lines given ++ cond t [] (last_part given ∷ [])) (sym empty)
      | inr some ↦
          ap (λ (t : Bool). ended_lines (cond t given (with_feed given))) some
          ∙ ended_lines-cut (given ++ 10 ∷ []) (ended_lines given ++ (last_part given ++ []) ∷ []) []
          (cuts_ended given (ended_lines given) (last_part given) [] (cuts_itself given)
          (All-nil (λ byte. is_feed byte ≡ false)))
          ∙ ap (λ (l : List ℕ). ended_lines given ++ l ∷ []) (append-nil (last_part given))
          ∙ ap (λ (t : Bool). ended_lines given ++ cond t [] (last_part given ∷ [])) (sym some)
    ]

-- at the end of an input where no line feed waits, they are all lines of it
pub passed_to_end : (line waiting given read : List ℕ) (lines : List (List ℕ)) → KeepsRest line waiting given lines
    → HasNoFeed waiting → given ≡ closed read → lines ≡ lines_of read
passed_to_end line waiting given read lines from none same =
    passed_all line waiting given lines from none ∙ ap ended_lines same ∙ ended_lines-closed read
