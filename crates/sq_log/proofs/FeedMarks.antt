-- Masks whose bits mark the line feeds of a piece.
use Rattle.std.proofs.Common.{◌≡◌, ◌+◌, ◌-◌, ◌*◌, ◌/◌, ◌%◌, ◌^◌, ◌<◌, ◌≤◌, ◌∙◌, inl, inr, ℕ, Bool, true, false, cond, eqb, List}
use Rattle.std.proofs.Common.{length, take, drop, get_or, map, min, refl, sym, ap, subst, arith, w64, eq-zero-or-pos, rules}
use Rattle.std.proofs.Common.{shr-shr}
use Rattle.std.specs.Int.{bit_at, trailing_zeros}
use Rattle.std.specs.Int.Count.{count_trailing_zeros}
use Rattle.std.specs.List.{position_or_len}
use Rattle.std.proofs.Math.ListN.{get_or-map}
use Rattle.std.proofs.lemmas.List.{get_or-drop, get_or-take, length-drop, length-take}
use Rattle.std.proofs.lemmas.List.Sums.{position_or_len_is}
use Rattle.std.proofs.lemmas.Bool.{cases_lt}
use Rattle.std.proofs.Math.Pow.{shr_lt}
use Rattle.std.specs.Int.Bits.{bit_and}
use Rattle.std.proofs.lemmas.Nat.Bits.{bit_at-lt, bit_at-trailing_zeros, bit_at-zero, bit_at_above, bit_at_and}
use Rattle.std.proofs.lemmas.Nat.Bits.{bit_at_ones}
use Rattle.std.proofs.lemmas.Simd.{bit_mask_l}
use Rattle.std.specs.Simd.Lanes.{mask_l}
use Rattle.sq_log.specs.Lines.{is_feed, MarksFeeds}

-- the mask of a comparison of all bytes
pub marks_lanes : (bytes : List ℕ) → MarksFeeds (mask_l (map (λ x. eqb x 10) bytes)) bytes
marks_lanes bytes k within = bit_mask_l (map is_feed bytes) k ∙ ap (λ b. cond b 1 0) (get_or-map is_feed bytes k 0)

-- the mask of the first bytes
pub marks_front : (piece : List ℕ) (n feeds : ℕ) → MarksFeeds feeds piece → MarksFeeds feeds (take n piece)
marks_front piece n feeds marked k within =
    let first : k < n = omega (arith, length-take n piece) in
    let there : k < length piece = omega (arith, length-take n piece) in
    marked k there ∙ ap (λ b. cond (is_feed b) 1 0) (sym (get_or-take n piece k 0 first))

-- the mask of what stands after the byte at a place
pub marks_after : (bytes : List ℕ) (at place feeds : ℕ) → MarksFeeds feeds (drop at bytes)
    → MarksFeeds (feeds / 2 ^ place / 2) (drop (at + place + 1) bytes)
marks_after bytes at place feeds marked k within =
    let there : place + (1 + k) < length (drop at bytes) =
    omega (arith, length-drop at bytes, length-drop (at + place + 1) bytes) in
    let far : at + (place + (1 + k)) ≡ at + place + 1 + k = omega arith in
    ap (λ x. x % 2) (shr-shr (feeds / 2 ^ place) 1 k ∙ shr-shr feeds place (1 + k)) ∙ marked (place + (1 + k)) there
    ∙ ap (λ b. cond (is_feed b) 1 0) (get_or-drop at bytes (place + (1 + k)) 0 ∙ ap (λ n. get_or bytes n 0) far
    ∙ sym (get_or-drop (at + place + 1) bytes k 0))

unset : (b : Bool) → cond {A = ℕ} b 1 0 ≡ 0 → b ≡ false
unset true e = absurd (omega arith)
unset false e = refl

set : (b : Bool) → cond {A = ℕ} b 1 0 ≡ 1 → b ≡ true
set true e = refl
set false e = absurd (omega arith)

-- no bit is set below the lowest one
below_lowest : (feeds k : ℕ) → feeds < 2 ^ 64 → k < trailing_zeros w64 feeds → bit_at feeds k ≡ 0
below_lowest feeds k small below = elim (eq-zero-or-pos feeds) [
  | inl none ↦ subst (λ m. bit_at m k ≡ 0) (sym none) (bit_at-zero k)
  | inr some ↦ (bit_at-trailing_zeros w64 feeds some small).2 k below
]

-- the lowest one is set where it is one of 64
at_lowest : (feeds : ℕ) → feeds < 2 ^ 64 → trailing_zeros w64 feeds < 64 → bit_at feeds (trailing_zeros w64 feeds) ≡ 1
unfolding count_trailing_zeros
at_lowest feeds small within = elim (eq-zero-or-pos feeds) [
  | inl none ↦ let all : trailing_zeros w64 feeds ≡ 64 = ap (trailing_zeros w64) none in absurd (omega arith)
  | inr some ↦ (bit_at-trailing_zeros w64 feeds some small).1
]

-- the lowest bit marks the first line feed
pub first_marked : (piece : List ℕ) (feeds place : ℕ) → feeds < 2 ^ 64 → length piece ≤ 64 → MarksFeeds feeds piece
    → place ≡ min (length piece) (trailing_zeros w64 feeds) → place ≡ position_or_len is_feed piece
first_marked piece feeds place small short marked is =
    sym (position_or_len_is is_feed piece place 0 (omega arith)
    (λ k below. unset _ (sym (marked k (omega arith)) ∙ below_lowest feeds k small (omega arith)))
    (λ there.
    let lowest : place ≡ trailing_zeros w64 feeds = omega arith in
    set _ (sym (marked place there) ∙ ap (bit_at feeds) lowest ∙ at_lowest feeds small (omega arith))))

-- where the bits above the piece are not set: the lowest bit is its first line feed
pub first_place : (piece : List ℕ) (feeds : ℕ) → 0 < feeds → feeds < 2 ^ 64 → feeds < 2 ^ length piece
    → length piece ≤ 64 → MarksFeeds feeds piece
    → (trailing_zeros w64 feeds < length piece) × (trailing_zeros w64 feeds ≡ position_or_len is_feed piece)
first_place piece feeds some small within short marked =
    let lowest : ℕ = trailing_zeros w64 feeds in
    let set_there : bit_at feeds lowest ≡ 1 = (bit_at-trailing_zeros w64 feeds some small).1 in
    let below : lowest < length piece = elim (cases_lt lowest (length piece)) [
      | inl below ↦ below
      | inr past ↦ absurd (omega (arith, set_there, bit_at_above feeds (length piece) lowest within past))
    ] in
    let least : lowest ≡ min (length piece) lowest = omega (arith, below) in
    (below, first_marked piece feeds lowest small short marked least)

-- no bit is set, and there is no line feed
pub none_marked : (piece : List ℕ) → length piece ≤ 64 → MarksFeeds 0 piece
    → length piece ≤ position_or_len is_feed piece
unfolding count_trailing_zeros
none_marked piece short marked =
    let least : length piece ≡ min (length piece) (trailing_zeros w64 0) = omega (arith, short) in
    let is = first_marked piece 0 (length piece) (omega arith) short marked least in
    omega (arith, is)

-- fewer marks
pub marks_same : (piece : List ℕ) (few feeds : ℕ) → ((k : ℕ) → k < length piece → bit_at few k ≡ bit_at feeds k)
    → MarksFeeds feeds piece → MarksFeeds few piece
marks_same piece few feeds same marked k within = same k within ∙ marked k within

pub front_bit : (feeds count k : ℕ) → k < count → bit_at (bit_and feeds (2 ^ count - 1)) k ≡ bit_at feeds k
front_bit feeds count k within =
    bit_at_and feeds (2 ^ count - 1) k
    ∙ ap (λ b. min (bit_at feeds k) b) (bit_at_ones count k within)
    ∙ (let small = bit_at-lt feeds k in
    let least : min (bit_at feeds k) 1 ≡ bit_at feeds k = omega (arith, small) in least)

pub shifted_small : (feeds n here : ℕ) → here + 1 ≤ n → feeds < 2 ^ n → feeds / 2 ^ here / 2 < 2 ^ (n - (here + 1))
shifted_small feeds n here within small =
    let whole : n ≡ (n - (here + 1)) + 1 + here = omega (arith, within) in
    let first : feeds / 2 ^ here < 2 ^ ((n - (here + 1)) + 1) =
    shr_lt ((n - (here + 1)) + 1) here (subst (λ m. feeds < 2 ^ m) whole small) in
    shr_lt (n - (here + 1)) 1 first

pub shifted_one : (count : ℕ) → count < 64 → (1 * 2 ^ count) % 18446744073709551616 ≡ 2 ^ count
shifted_one count few = search (rules, arith)
