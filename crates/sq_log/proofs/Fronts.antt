-- The bytes that stand for a line, in a window that slides.
use Rattle.std.proofs.Common.{◌≡◌, ◌+◌, ◌-◌, ◌<◌, ◌≤◌, ◌++◌, ◌∙◌, inl, inr, ℕ, List, [], length, take, drop, ap, sym}
use Rattle.std.proofs.Common.{subst, arith, rules, append-nil, length-append}
use Rattle.std.proofs.Math.Seq.{take-add}
use Rattle.std.proofs.lemmas.Bool.{cases_lt}
use Rattle.std.proofs.lemmas.List.{drop_all, drop-drop, drop-take, length-drop, length-take, places}
use Rattle.std.proofs.lemmas.List.{same_lists, take-take}
use Rattle.std.proofs.lemmas.Simd.{put_chunk_is}
use Rattle.std.proofs.lemmas.Slice.{take-put_mid}
use lib.Lanes.{chunk, put_chunk}
use borrow.Rule.Slice.PartMut.{mid_of, put_mid}
use Rattle.sq_log.specs.Content.{content}
use Rattle.sq_log.specs.Rests.{IsHeldAs}
use Rattle.sq_log.proofs.Contents.{content-over}

-- the same stands on them
pub same_content : (bytes line : List ℕ) → IsHeldAs bytes line → content bytes ≡ content line
same_content bytes line (inl same) = ap content same
same_content bytes line (inr long) = content-over bytes long.0 ∙ sym (content-over line long.1)

-- more bytes of both
pub held_on : (bytes line more : List ℕ) → IsHeldAs bytes line → IsHeldAs (bytes ++ more) (line ++ more)
held_on bytes line more (inl same) = inl (ap (λ l. l ++ more) same)
held_on bytes line more (inr long) =
    inr (omega (arith, long.0, length-append bytes more), omega (arith, long.1, length-append line more))

-- fewer bytes that stand for those
pub held_by : (fewer bytes line : List ℕ) → IsHeldAs fewer bytes → IsHeldAs bytes line → IsHeldAs fewer line
held_by fewer bytes line (inl same) held = subst (λ l. IsHeldAs l line) (sym same) held
held_by fewer bytes line (inr long) (inl same) = inr (long.0, omega (arith, long.1, ap length same))
held_by fewer bytes line (inr long) (inr both) = inr (long.0, both.1)

pub none_held : (bytes line : List ℕ) → IsHeldAs bytes line → length bytes ≡ 0 → length line ≡ 0
none_held bytes line (inl same) none = omega (arith, ap length same, none)
none_held bytes line (inr long) none = absurd (omega (arith, long.0, none))

pub some_held : (bytes line : List ℕ) → IsHeldAs bytes line → 0 < length bytes → 0 < length line
some_held bytes line (inl same) some = omega (arith, ap length same, some)
some_held bytes line (inr long) some = omega (arith, long.1)

-- ---- parts of a list

-- from one place to another, and on
pub part_on : (xs : List ℕ) (begin at more : ℕ) → begin ≤ at
    → take (at + more - begin) (drop begin xs) ≡ take (at - begin) (drop begin xs) ++ take more (drop at xs)
part_on xs begin at more first =
    let far : at + more - begin ≡ (at - begin) + more = omega (arith, first) in
    let there : begin + (at - begin) ≡ at = omega (arith, first) in
    ap (λ n. take n (drop begin xs)) far ∙ take-add (at - begin) more (drop begin xs)
    ∙ ap (λ l. take (at - begin) (drop begin xs) ++ take more l) (drop-drop (at - begin) begin xs)
    ∙ ap (λ n. take (at - begin) (drop begin xs) ++ take more (drop n xs)) there

-- the part from one place to another, cut at its end first
pub part_is : (xs : List ℕ) (begin end : ℕ) → begin ≤ end
    → drop begin (take end xs) ≡ take (end - begin) (drop begin xs)
part_is xs begin end first =
    let there : end ≡ begin + (end - begin) = omega (arith, first) in
    ap (λ n. drop begin (take n xs)) there ∙ drop-take begin (end - begin) xs

-- nothing lies between a place and itself
pub part_none : (xs : List ℕ) (at : ℕ) → [] ≡ take (at - at) (drop at xs)
part_none xs at = let none : 0 ≡ at - at = omega arith in ap (λ n. take n (drop at xs)) none

-- ---- a window that slides

-- what is moved to the front
moved : (xs : List ℕ) (count : ℕ) → length xs ≡ 129 → count ≤ 64
    → put_chunk 0 (mid_of 1 64 xs) (chunk 0 64 (mid_of (count + 1) (count + 65 - (count + 1)) xs))
    ≡ take 64 (drop (count + 1) xs)
moved xs count all few =
    let long : length (take 64 (drop (count + 1) xs)) ≡ 64 =
    omega (arith, length-take 64 (drop (count + 1) xs), length-drop (count + 1) xs) in
    let place : length (take 64 (drop 1 xs)) ≡ 64 = omega (arith, length-take 64 (drop 1 xs), length-drop 1 xs) in
    let wide : count + 65 - (count + 1) ≡ 64 = omega arith in
    ap (λ n. put_chunk 0 (take 64 (drop 1 xs)) (take 64 (take n (drop (count + 1) xs)))) wide
    ∙ ap (put_chunk 0 (take 64 (drop 1 xs))) (take-take 64 64 (drop (count + 1) xs) (omega arith))
    ∙ put_chunk_is 0 (take 64 (drop 1 xs)) (take 64 (drop (count + 1) xs)) (omega (arith, long, place))
    ∙ ap (λ l. take 64 (drop (count + 1) xs) ++ l)
    (drop_all (length (take 64 (drop (count + 1) xs))) (take 64 (drop 1 xs)) (omega (arith, long, place)))
    ∙ append-nil (take 64 (drop (count + 1) xs))

-- the line that is not complete begins so many bytes before where it did; where it is too long, anywhere
pub slid : (xs ys : List ℕ) (count begin next : ℕ) → length xs ≡ 129 → count ≤ 64 → begin ≤ 65 + count
    → ys ≡ put_chunk 0 (mid_of 1 64 xs) (chunk 0 64 (mid_of (count + 1) (count + 65 - (count + 1)) xs))
    → next ≡ begin - count
    → IsHeldAs (drop next (take 65 (put_mid 1 64 xs ys))) (drop begin (take (65 + count) xs))
slid xs ys count begin next all few within is from =
    let put : ys ≡ take 64 (drop (count + 1) xs) = is ∙ moved xs count all few in
    let long : length ys ≡ 64 =
    omega (arith, ap length put, length-take 64 (drop (count + 1) xs), length-drop (count + 1) xs) in
    let front : take 65 (put_mid 1 64 xs ys) ≡ take 1 xs ++ take 64 (drop (count + 1) xs) =
    take-put_mid 1 64 xs ys 65 (omega (arith, long)) (omega (arith, all)) ∙ ap (λ l. take 1 xs ++ l) put in
    elim (cases_lt count begin) [
      | inl after ↦
          inl (ap (drop next) front
          ∙ same_lists _ _ (search (rules, places)) (λ k d h. grind (arith, places)))
      | inr before ↦ inr (search (rules, places), search (rules, places))
    ]
