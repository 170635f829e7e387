-- The index of the first byte with a given value.
use Rattle.std.proofs.Common.{◌≡◌, ◌≢◌, ◌+◌, ◌<◌, ◌≤◌, ◌∙◌, ℕ, Bool, true, false, not, List, length, take, drop, get_or, map, cond, eqb}
use Rattle.std.proofs.Common.{ap, sym, refl, arith, inl, inr, ◌-◌}
use Rattle.std.specs.Prelude.{◌==◌}
use Rattle.std.proofs.lemmas.Bool.{cases_lt, eq-eqb, eqb-true, ne_eqb}
use Rattle.std.proofs.lemmas.List.{get_or-drop, get_or-take, length-drop, length-take}
use Rattle.std.proofs.lemmas.List.Sums.{position_or_len_is, prefix_len-le-length, prefix_len_passes, prefix_len_stops}
use Rattle.std.proofs.lemmas.Simd.{first_set_mask_l}
use Rattle.std.specs.Int.{trailing_zeros, w64}
use Rattle.std.specs.Simd.Lanes.{mask_l}
use Rattle.sq_feed.specs.Cells.{position_of}

pub position_is : (byte : ℕ) (text : List ℕ) (at : ℕ) → at ≤ length text
    → ((k : ℕ) → k < at → get_or text k 0 ≢ byte) → (at < length text → get_or text at 0 ≡ byte)
    → at ≡ position_of byte text
position_is byte text at within before found =
    sym (position_or_len_is (λ b. b == byte) text at 0 within (λ k less. ne_eqb (get_or text k 0) byte (before k less))
    (λ inside. eq-eqb (get_or text at 0) byte (found inside)))

-- the lowest set bit of the mask is the position
pub first_bit : (byte : ℕ) (bytes : List ℕ) → length bytes ≡ 16
    → cond (eqb (mask_l (map (λ x. eqb x byte) bytes)) 0) 16 (trailing_zeros w64 (mask_l (map
    (λ x. eqb x byte) bytes)))
    ≡ position_of byte bytes
first_bit byte bytes long = first_set_mask_l (λ x. eqb x byte) bytes 16 long (omega arith)

pub none_set : (byte mask : ℕ) (bytes : List ℕ) → length bytes ≡ 16 → mask ≡ mask_l (map (λ x. eqb x byte) bytes)
    → mask ≡ 0 → 16 ≡ position_of byte bytes
none_set byte mask bytes long is none =
    sym (ap (λ b. cond b 16 (trailing_zeros w64 mask)) (eq-eqb mask 0 none))
    ∙ ap (λ m. cond (eqb m 0) 16 (trailing_zeros w64 m)) is ∙ first_bit byte bytes long

pub some_set : (byte mask : ℕ) (bytes : List ℕ) → length bytes ≡ 16 → mask ≡ mask_l (map (λ x. eqb x byte) bytes)
    → mask ≢ 0 → trailing_zeros w64 mask ≡ position_of byte bytes
some_set byte mask bytes long is some =
    sym (ap (λ b. cond b 16 (trailing_zeros w64 mask)) (ne_eqb mask 0 some))
    ∙ ap (λ m. cond (eqb m 0) 16 (trailing_zeros w64 m)) is ∙ first_bit byte bytes long

-- the bytes before and at a position
pub before_position : (byte : ℕ) (text : List ℕ) (k : ℕ) → k < position_of byte text → get_or text k 0 ≢ byte
before_position byte text k less is =
    let pass = prefix_len_passes (λ b. not (b == byte)) text k 0 less in
    let none : not true ≡ true = ap not (sym (eq-eqb (get_or text k 0) byte is)) ∙ pass in cc

pub at_position : (byte : ℕ) (text : List ℕ) → position_of byte text < length text
    → get_or text (position_of byte text) 0 ≡ byte
at_position byte text within =
    eqb-true (get_or text (position_of byte text) 0) byte
    (stops (get_or text (position_of byte text) 0 == byte) (prefix_len_stops (λ b. not (b == byte)) text 0 within))
  where
    stops : (b : Bool) → not b ≡ false → b ≡ true
    stops true e = refl
    stops false e = absurd (cc e)

-- ---- groups of sixteen

abbrev pub group_of : List ℕ → ℕ → List ℕ
group_of text start = take 16 (take (length text - start) (drop start text))

group_long : (text : List ℕ) (start : ℕ) → start + 16 ≤ length text → length (group_of text start) ≡ 16
group_long text start room =
    omega (
      arith,
      room,
      length-take 16 (take (length text - start) (drop start text)),
      length-take (length text - start) (drop start text),
      length-drop start text,
    )

group_byte : (text : List ℕ) (start j : ℕ) → start + 16 ≤ length text → j < 16
    → get_or (group_of text start) j 0 ≡ get_or text (start + j) 0
group_byte text start j room small =
    get_or-take 16 (take (length text - start) (drop start text)) j 0 small
    ∙ get_or-take (length text - start) (drop start text) j 0 (omega (arith, room, small))
    ∙ get_or-drop start text j 0

few_of : (byte : ℕ) (bytes : List ℕ) → position_of byte bytes ≤ length bytes
few_of byte bytes = prefix_len-le-length (λ b. not (b == byte)) bytes

pub group_before : (byte : ℕ) (text : List ℕ) (start at : ℕ) → start + 16 ≤ length text
    → at ≡ position_of byte (group_of text start) → ((k : ℕ) → k < start → get_or text k 0 ≢ byte)
    → (k : ℕ) → k < start + at → get_or text k 0 ≢ byte
group_before byte text start at room is before k less = elim (cases_lt k start) [
  | inl low ↦ before k low
  | inr high ↦
      let bytes = group_of text start in
      let place : start + (k - start) ≡ k = omega (arith, high) in
      let near : k - start < position_of byte bytes = omega (arith, less, high, is) in
      let small : k - start < 16 = omega (arith, near, few_of byte bytes, group_long text start room) in
      λ same. before_position byte bytes (k - start) near
      (group_byte text start (k - start) room small ∙ ap (λ n. get_or text n 0) place ∙ same)
]

pub group_found : (byte : ℕ) (text : List ℕ) (start at : ℕ) → start + 16 ≤ length text
    → at ≡ position_of byte (group_of text start) → at < 16 → get_or text (start + at) 0 ≡ byte
group_found byte text start at room is small =
    let bytes = group_of text start in
    let within : position_of byte bytes < length bytes = omega (arith, is, small, group_long text start room) in
    sym (group_byte text start at room small) ∙ ap (λ n. get_or bytes n 0) is ∙ at_position byte bytes within

-- ---- the first sixteen bytes

few_in_16 : (byte : ℕ) (text : List ℕ) (at : ℕ) → 16 ≤ length text → at ≡ position_of byte (take 16 text) → at ≢ 16
    → at < 16
few_in_16 byte text at room is other =
    omega (arith, is, other, few_of byte (take 16 text), length-take 16 text, room)

pub found_in_16 : (byte : ℕ) (text : List ℕ) (at : ℕ) → 16 ≤ length text → at ≡ position_of byte (take 16 text)
    → at ≢ 16 → (at < 16) × (get_or text at 0 ≡ byte)
found_in_16 byte text at room is other =
    let few = few_in_16 byte text at room is other in
    let within : position_of byte (take 16 text) < length (take 16 text) =
    omega (arith, is, few, length-take 16 text, room) in (
      few,
      sym (get_or-take 16 text at 0 few) ∙ ap (λ n. get_or (take 16 text) n 0) is ∙ at_position byte (take 16 text)
          within,
    )

pub before_in_16 : (byte : ℕ) (text : List ℕ) (at k : ℕ) → 16 ≤ length text → at ≡ position_of byte (take 16 text)
    → k < at → get_or text k 0 ≢ byte
before_in_16 byte text at k room is less same =
    let small : k < 16 = omega (arith, is, less, few_of byte (take 16 text), length-take 16 text, room) in
    before_position byte (take 16 text) k (omega (arith, is, less)) (get_or-take 16 text k 0 small ∙ same)
