-- The tables of remainders: each entry is the result of eight steps from its byte, or from the entry of the previous
-- table.
use Rattle.std.proofs.Common.{◌≡◌, ℕ, ◌+◌, ◌*◌, ◌<◌, ◌^◌, cond, ltb, map, get_or, bit_xor, refl, sym, ap, ◌∙◌, subst}
use Rattle.std.proofs.Common.{inl, inr, arith}
use Rattle.std.proofs.lemmas.Bool.{cases_lt, le-ltb, lt-ltb}
use Rattle.std.proofs.lemmas.List.FromFn.{get_or-map-range_with_len}
use Rattle.std.specs.List.{range_with_len}
use lib.Bits.{xor_self}
use Rattle.sq_bits.specs.Parity.{generator, IsRemainder}
use Rattle.std.proofs.Math.ListN.{get_or-map}
use Rattle.sq_bits.specs.declared.table.TheConstants.{REMAINDERS, REMAINDERS_32, REMAINDERS_40}
use Rattle.sq_bits.proofs.Multiples.{IsMultiple-zero}
use Rattle.sq_bits.proofs.Remainders.{IsRemainder-kept, IsRemainder-reduced}

-- the remainder after one more coefficient 0
abbrev step : ℕ → ℕ
step r = cond (ltb (r * 2) 16777216) (r * 2) (bit_xor (r * 2) generator)

IsRemainder-step : (n r : ℕ) → IsRemainder n r → IsRemainder (2 * n) (step r)
IsRemainder-step n r is =
    let same : 2 * n + 0 ≡ 2 * n = omega arith in
    let shifted : r * 2 + 0 ≡ r * 2 = omega arith in
    elim (cases_lt (r * 2) 16777216) [
      | inl low ↦
          let kept : IsRemainder (2 * n + 0) (r * 2 + 0) = IsRemainder-kept n r 0 (omega arith) (omega arith) is in
          let kept' : IsRemainder (2 * n) (r * 2) = rw (same, shifted) at kept in
          subst (λ t. IsRemainder (2 * n) (cond t (r * 2) (bit_xor (r * 2) generator)))
          (sym (lt-ltb (r * 2) 16777216 low)) kept'
      | inr high ↦
          let reduced : IsRemainder (2 * n + 0) (bit_xor (r * 2 + 0) generator) =
          IsRemainder-reduced n r 0 (omega arith) (omega arith) is in
          let reduced' : IsRemainder (2 * n) (bit_xor (r * 2) generator) = rw (same, shifted) at reduced in
          subst (λ t. IsRemainder (2 * n) (cond t (r * 2) (bit_xor (r * 2) generator)))
          (sym (le-ltb (r * 2) 16777216 high)) reduced'
    ]

-- the remainder of a byte with 24 coefficients 0 after it
abbrev of_byte : ℕ → ℕ
of_byte b = step (step (step (step (step (step (step (step (b * 65536))))))))

IsRemainder-of_byte : (b : ℕ) → b < 256 → IsRemainder (b * 2 ^ 24) (of_byte b)
IsRemainder-of_byte b small =
    let n : ℕ = b * 65536 in
    let start : IsRemainder n n = (omega arith, rw (xor_self n) IsMultiple-zero) in
    let four = IsRemainder-step _ _ (IsRemainder-step _ _ (IsRemainder-step _ _ (IsRemainder-step n n start))) in
    let eight = IsRemainder-step _ _ (IsRemainder-step _ _ (IsRemainder-step _ _ (IsRemainder-step _ _ four))) in
    let whole : 2 * (2 * (2 * (2 * (2 * (2 * (2 * (2 * n))))))) ≡ b * 2 ^ 24 = omega arith in
    subst (λ x. IsRemainder x (of_byte b)) whole eight

table_is : REMAINDERS ≡ map of_byte (range_with_len 0 256)
table_is = refl

-- each entry of the table is the remainder of its byte
pub IsRemainder-entry : (b : ℕ) → b < 256 → IsRemainder (b * 2 ^ 24) (get_or REMAINDERS b 0)
IsRemainder-entry b small =
    let entry : get_or REMAINDERS b 0 ≡ of_byte b
    = ap (λ t. get_or t b 0) table_is ∙ get_or-map-range_with_len of_byte 0 256 b b 0 small (omega arith) in
    subst (λ x. IsRemainder (b * 2 ^ 24) x) (sym entry) (IsRemainder-of_byte b small)

-- the remainder after eight more coefficients 0
abbrev eight : ℕ → ℕ
eight r = step (step (step (step (step (step (step (step r)))))))

IsRemainder-eight : (n r : ℕ) → IsRemainder n r → IsRemainder (n * 256) (eight r)
IsRemainder-eight n r is =
    let four = IsRemainder-step _ _ (IsRemainder-step _ _ (IsRemainder-step _ _ (IsRemainder-step n r is))) in
    let all = IsRemainder-step _ _ (IsRemainder-step _ _ (IsRemainder-step _ _ (IsRemainder-step _ _ four))) in
    let whole : 2 * (2 * (2 * (2 * (2 * (2 * (2 * (2 * n))))))) ≡ n * 256 = omega arith in
    subst (λ x. IsRemainder x (eight r)) whole all

table_32_is : REMAINDERS_32 ≡ map eight REMAINDERS
table_32_is = refl

pub IsRemainder-entry_32 : (b : ℕ) → b < 256 → IsRemainder (b * 2 ^ 32) (get_or REMAINDERS_32 b 0)
IsRemainder-entry_32 b small =
    let entry : get_or REMAINDERS_32 b 0 ≡ eight (get_or REMAINDERS b 0) =
    ap (λ t. get_or t b 0) table_32_is ∙ get_or-map eight REMAINDERS b 0 in
    let more = IsRemainder-eight (b * 2 ^ 24) (get_or REMAINDERS b 0) (IsRemainder-entry b small) in
    let whole : b * 2 ^ 24 * 256 ≡ b * 2 ^ 32 = omega arith in
    rw whole at (subst (λ x. IsRemainder (b * 2 ^ 24 * 256) x) (sym entry) more)

table_40_is : REMAINDERS_40 ≡ map eight REMAINDERS_32
table_40_is = refl

pub IsRemainder-entry_40 : (b : ℕ) → b < 256 → IsRemainder (b * 2 ^ 40) (get_or REMAINDERS_40 b 0)
IsRemainder-entry_40 b small =
    let entry : get_or REMAINDERS_40 b 0 ≡ eight (get_or REMAINDERS_32 b 0) =
    ap (λ t. get_or t b 0) table_40_is ∙ get_or-map eight REMAINDERS_32 b 0 in
    let more = IsRemainder-eight (b * 2 ^ 32) (get_or REMAINDERS_32 b 0) (IsRemainder-entry_32 b small) in
    let whole : b * 2 ^ 32 * 256 ≡ b * 2 ^ 40 = omega arith in
    rw whole at (subst (λ x. IsRemainder (b * 2 ^ 32 * 256) x) (sym entry) more)
