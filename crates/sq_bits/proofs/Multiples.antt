-- Multiples of the generator: they are closed under sums and shifts, and only 0 is below 2^24.
use Rattle.std.proofs.Common.{◌≡◌, ℕ, ◌+◌, ◌*◌, ◌/◌, ◌<◌, ◌≤◌, ◌^◌, Bool, true, false, cond, List, [], ◌∷◌, bit_xor}
use Rattle.std.proofs.Common.{refl, sym, ap, ◌∙◌, arith, inl, inr, ◌⊎◌}
use Rattle.std.proofs.lemmas.Nat.{xor_comm, xor_lt, xor_shr}
use lib.Bits.{xor_assoc, xor_self, xor_zero_r, xor_block}
use Rattle.sq_bits.specs.Parity.{generator, carryless_product, IsMultiple, IsRemainder}

-- (a ^ b) ^ (c ^ d) with the middle two exchanged
pub xor_exchange : (a b c d : ℕ) → bit_xor (bit_xor a b) (bit_xor c d) ≡ bit_xor (bit_xor a c) (bit_xor b d)
xor_exchange a b c d =
    xor_assoc a b (bit_xor c d) ∙ ap (λ x. bit_xor a x)
    (sym (xor_assoc b c d) ∙ ap (λ x. bit_xor x d) (xor_comm b c) ∙ xor_assoc c b d)
    ∙ sym (xor_assoc a c (bit_xor b d))

pub xor_twice : (a b : ℕ) → bit_xor (2 * a) (2 * b) ≡ 2 * bit_xor a b
xor_twice a b =
    let block : bit_xor (a * 2 ^ 1 + 0) (b * 2 ^ 1 + 0) ≡ bit_xor a b * 2 ^ 1 + bit_xor 0 0 =
    xor_block 1 a b 0 0 (omega arith) (omega arith) in
    let left : 2 * a ≡ a * 2 ^ 1 + 0 = omega arith in
    let right : 2 * b ≡ b * 2 ^ 1 + 0 = omega arith in
    let out : bit_xor a b * 2 ^ 1 + bit_xor 0 0 ≡ 2 * bit_xor a b = omega arith in
    rw (left, right) (block ∙ out)

-- the sum of two products is the product with the sum
pub sum_of_products : (a : ℕ) (p q : List Bool)
    → (s : List Bool) × (bit_xor (carryless_product a p) (carryless_product a q) ≡ carryless_product a s)
unfolding carryless_product
sum_of_products a [] q = (q, refl)
sum_of_products a (c ∷ p) [] = (c ∷ p, xor_zero_r (carryless_product a (c ∷ p)))
sum_of_products a (c ∷ p) (d ∷ q) =
    let rest = sum_of_products a p q in
    let inner : bit_xor (2 * carryless_product a p) (2 * carryless_product a q) ≡ 2 * carryless_product a rest.0
    = xor_twice (carryless_product a p) (carryless_product a q) ∙ ap (λ x. 2 * x) rest.1 in
    let swapped = xor_exchange (cond c a 0) (2 * carryless_product a p) (cond d a 0) (2 * carryless_product a q) in
    elim c as (λ e. (s : List Bool)
    × (bit_xor (carryless_product a (e ∷ p)) (carryless_product a (d ∷ q)) ≡ carryless_product a s)) [
      | true ↦ elim d as (λ e. (s : List Bool)
          × (bit_xor (carryless_product a (true ∷ p)) (carryless_product a (e ∷ q)) ≡ carryless_product a s)) [
            | true ↦ (
              false ∷ rest.0,
              xor_exchange a (2 * carryless_product a p) a (2 * carryless_product a q)
                  ∙ rw (xor_self a, inner) refl,
            )
            | false ↦ (
              true ∷ rest.0,
              xor_exchange a (2 * carryless_product a p) 0 (2 * carryless_product a q)
                  ∙ rw (xor_zero_r a, inner) refl,
            )
          ]
      | false ↦ elim d as (λ e. (s : List Bool)
          × (bit_xor (carryless_product a (false ∷ p)) (carryless_product a (e ∷ q)) ≡ carryless_product a s)) [
            | true ↦ (
              true ∷ rest.0,
              xor_exchange 0 (2 * carryless_product a p) a (2 * carryless_product a q)
                  ∙ rw inner refl,
            )
            | false ↦ (
              false ∷ rest.0,
              xor_exchange 0 (2 * carryless_product a p) 0 (2 * carryless_product a q)
                  ∙ rw inner refl,
            )
          ]
    ]

pub IsMultiple-xor : (m n : ℕ) → IsMultiple m → IsMultiple n → IsMultiple (bit_xor m n)
unfolding IsMultiple
IsMultiple-xor m n (p, e) (q, f) =
    let both = sum_of_products generator p q in
    (both.0, rw (e, f) both.1)

pub IsMultiple-zero : IsMultiple 0
unfolding IsMultiple carryless_product
IsMultiple-zero = ([], refl)

pub IsMultiple-twice : (n : ℕ) → IsMultiple n → IsMultiple (2 * n)
unfolding IsMultiple carryless_product
IsMultiple-twice n (p, e) = (false ∷ p, ap (λ x. 2 * x) e)

-- twice a multiple plus the generator is a multiple
pub IsMultiple-twice_more : (n : ℕ) → IsMultiple n → IsMultiple (bit_xor generator (2 * n))
unfolding IsMultiple carryless_product
IsMultiple-twice_more n (p, e) = (true ∷ p, ap (λ x. bit_xor generator (2 * x)) e)

-- a sum of a number from 2^25 up and one below 2^25 is at least 2^25
xor_high : (a n : ℕ) → a < 2 ^ 25 → 2 ^ 25 ≤ n → 2 ^ 25 ≤ bit_xor a n
xor_high a n low high =
    let shifted : bit_xor a n / 2 ^ 25 ≡ bit_xor (a / 2 ^ 25) (n / 2 ^ 25) = xor_shr a n 25 in
    let none : a / 2 ^ 25 ≡ 0 = omega arith in
    let same : bit_xor (a / 2 ^ 25) (n / 2 ^ 25) ≡ n / 2 ^ 25 = rw none refl in
    omega (arith, shifted, same)

-- a product with the generator is 0 or at least 2^24
product_cases : (p : List Bool) → (2 ^ 24 ≤ carryless_product generator p) ⊎ (carryless_product generator p ≡ 0)
unfolding carryless_product
product_cases [] = inr refl
product_cases (false ∷ p) = elim (product_cases p) [
  | inl high ↦ inl (omega arith)
  | inr none ↦ inr (omega arith)
]
product_cases (true ∷ p) = elim (product_cases p) [
  | inl high ↦ inl (omega (arith, xor_high generator (2 * carryless_product generator p) (omega arith) (omega arith)))
  | inr none ↦ inl (rw none (omega arith))
]

-- 0 is the only multiple below 2^24
pub IsMultiple-small : (n : ℕ) → IsMultiple n → n < 2 ^ 24 → n ≡ 0
unfolding IsMultiple
IsMultiple-small n (p, e) small = elim (product_cases p) [
  | inl high ↦ absurd (omega arith)
  | inr none ↦ e ∙ none
]

-- two numbers whose sum is 0 are equal
pub same_from_xor : (a b : ℕ) → bit_xor a b ≡ 0 → a ≡ b
same_from_xor a b none =
    sym (xor_zero_r a) ∙ ap (λ x. bit_xor a x) (sym (xor_self b)) ∙ sym (xor_assoc a b b) ∙ ap (λ x. bit_xor x b) none

-- a number has at most one remainder
pub IsRemainder-unique : (n r s : ℕ) → IsRemainder n r → IsRemainder n s → r ≡ s
IsRemainder-unique n r s (small, is) (small', is') =
    let both = IsMultiple-xor (bit_xor n r) (bit_xor n s) is is' in
    let moved : bit_xor (bit_xor n r) (bit_xor n s) ≡ bit_xor r s =
    xor_exchange n r n s ∙ ap (λ x. bit_xor x (bit_xor r s)) (xor_self n) in
    same_from_xor r s (IsMultiple-small (bit_xor r s) (rw moved at both) (xor_lt 24 r s small small'))

-- a multiple has the remainder 0
pub remainder_of_multiple : (n r : ℕ) → IsMultiple n → IsRemainder n r → r ≡ 0
remainder_of_multiple n r is remainder = IsRemainder-unique n r 0 remainder (omega arith, rw xor_zero_r is)

-- the remainder of a sum is the sum of the remainders
pub IsRemainder-sum : (m n r s : ℕ) → IsRemainder m r → IsRemainder n s → IsRemainder (bit_xor m n) (bit_xor r s)
IsRemainder-sum m n r s (small, is) (small', is') =
    (xor_lt 24 r s small small', rw (xor_exchange m n r s) (IsMultiple-xor (bit_xor m r) (bit_xor n s) is is'))
