-- Searching for escapes in lanes.
use Rattle.std.proofs.Common.{◌≡◌, ◌≢◌, ◌+◌, ◌-◌, ◌∙◌, inl, inr, ℕ, Bool, true, cond, eqb, List, length, get_or, map}
use Rattle.std.proofs.Common.{take, drop, ap, subst, arith}
use Rattle.std.specs.Int.{bit_at}
use Rattle.std.specs.Simd.Lanes.{mask_l}
use Rattle.std.proofs.Math.ListN.{get_or-map}
use Rattle.std.proofs.lemmas.Bool.{cases_lt, eq-eqb}
use Rattle.std.proofs.lemmas.List.{get_or-drop, get_or-take, length-take, length-drop}
use Rattle.std.proofs.lemmas.Nat.Bits.{bit_at-zero}
use Rattle.std.proofs.lemmas.Simd.{bit_mask_l}
use Rattle.sq_feed.specs.Stream.{IsPlain, escape}

is_escape : ℕ → Bool
is_escape byte = eqb byte 26

set_bit : (b : Bool) → b ≡ true → cond {A = ℕ} b 1 0 ≡ 1
set_bit b e = ap (λ (t : Bool). cond {A = ℕ} t 1 0) e

-- if no bit of a mask is set, no byte is an escape
pub plain_lanes : (bytes : List ℕ) → mask_l (map (λ x. eqb x 26) bytes) ≡ 0 → IsPlain bytes
unfolding is_escape
plain_lanes bytes none k within is =
    let one = bit_mask_l (map is_escape bytes) k ∙ ap (λ (b : Bool). cond {A = ℕ} b 1 0)
    (get_or-map is_escape bytes k 0)
    ∙ set_bit (is_escape (get_or bytes k 0)) (eq-eqb (get_or bytes k 0) 26 is) in
    let zero : bit_at (mask_l (map is_escape bytes)) k ≡ 0 = ap (λ m. bit_at m k) none ∙ bit_at-zero k in
    absurd (omega (arith, one, zero))

-- the first sixteen and the last sixteen of 21 bytes cover all of them
pub plain_halves : (bytes : List ℕ) → length bytes ≡ 21 → IsPlain (take 16 bytes) → IsPlain (drop 5 bytes)
    → IsPlain bytes
plain_halves bytes long front back k within = elim (cases_lt k 16) [
  | inl first ↦
      subst (λ b. b ≢ escape) (get_or-take 16 bytes k 0 first) (front k (omega (arith, length-take 16 bytes)))
  | inr last ↦
      let place : 5 + (k - 5) ≡ k = omega arith in
      subst (λ b. b ≢ escape) (get_or-drop 5 bytes (k - 5) 0 ∙ ap (λ n. get_or bytes n 0) place)
      (back (k - 5) (omega (arith, length-drop 5 bytes)))
]
