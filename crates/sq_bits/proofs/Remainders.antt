-- The steps of computing a remainder.
use Rattle.std.proofs.Common.{◌≡◌, ℕ, ◌+◌, ◌-◌, ◌*◌, ◌/◌, ◌%◌, ◌<◌, ◌≤◌, ◌^◌, bit_xor, refl, sym, ap, ◌∙◌, arith, zero}
use Rattle.std.proofs.Common.{suc, subst, inl, inr}
use Rattle.std.proofs.Math.Nat.{pow-suc}
use Rattle.std.proofs.lemmas.Bool.{cases_lt}
use Rattle.std.proofs.lemmas.Nat.{xor_comm, xor_shr, shr-shr}
use lib.Bits.{xor_assoc, xor_self, xor_zero_r, xor_block, xor_shifted}
use Rattle.sq_bits.proofs.Quotient.{field_at}
use Rattle.sq_bits.specs.Parity.{generator, IsMultiple, IsRemainder}
use Rattle.sq_bits.proofs.Multiples.{IsMultiple-zero, IsMultiple-xor, IsMultiple-twice, IsMultiple-twice_more}
use Rattle.sq_bits.proofs.Multiples.{IsRemainder-sum}

pub IsRemainder-zero : IsRemainder 0 0
IsRemainder-zero = (omega arith, IsMultiple-zero)

-- both numbers with the same bit appended
appended : (n r b : ℕ) → b < 2 → bit_xor (2 * n + b) (2 * r + b) ≡ 2 * bit_xor n r
appended n r b small =
    let block : bit_xor (n * 2 ^ 1 + b) (r * 2 ^ 1 + b) ≡ bit_xor n r * 2 ^ 1 + bit_xor b b =
    xor_block 1 n r b b (omega arith) (omega arith) in
    let left : 2 * n + b ≡ n * 2 ^ 1 + b = omega arith in
    let right : 2 * r + b ≡ r * 2 ^ 1 + b = omega arith in
    let out : bit_xor n r * 2 ^ 1 + bit_xor b b ≡ 2 * bit_xor n r = omega (arith, xor_self b) in
    rw (left, right) (block ∙ out)

-- below 2^24 nothing is subtracted
pub IsRemainder-kept : (n r b : ℕ) → b < 2 → r * 2 + b < 2 ^ 24 → IsRemainder n r → IsRemainder (2 * n + b) (r * 2 + b)
IsRemainder-kept n r b bit small (low, is) =
    let turned : r * 2 + b ≡ 2 * r + b = omega arith in
    (small, rw (turned, appended n r b bit) (IsMultiple-twice (bit_xor n r) is))

-- the highest bit of the generator cancels the highest bit of the number
pub reduced-lt : (m : ℕ) → 2 ^ 24 ≤ m → m < 2 ^ 25 → bit_xor m generator < 2 ^ 24
reduced-lt m high low =
    let shifted : bit_xor m generator / 2 ^ 24 ≡ bit_xor (m / 2 ^ 24) (generator / 2 ^ 24) = xor_shr m generator 24 in
    let top : m / 2 ^ 24 ≡ 1 = omega arith in
    let none : bit_xor (m / 2 ^ 24) (generator / 2 ^ 24) ≡ 0 = rw top refl in
    omega (arith, shifted, none)

pub IsRemainder-reduced : (n r b : ℕ) → b < 2 → 2 ^ 24 ≤ r * 2 + b → IsRemainder n r
    → IsRemainder (2 * n + b) (bit_xor (r * 2 + b) generator)
IsRemainder-reduced n r b bit high (low, is) =
    let turned : r * 2 + b ≡ 2 * r + b = omega arith in
    let sum : bit_xor (2 * n + b) (bit_xor (r * 2 + b) generator) ≡ bit_xor generator (2 * bit_xor n r)
    = sym (xor_assoc (2 * n + b) (r * 2 + b) generator) ∙ ap (λ x. bit_xor (bit_xor (2 * n + b) x) generator) turned
    ∙ ap (λ x. bit_xor x generator) (appended n r b bit) ∙ xor_comm (2 * bit_xor n r) generator in
    (reduced-lt (r * 2 + b) high (omega arith), rw sum (IsMultiple-twice_more (bit_xor n r) is))

-- adding a number below 2^24 leaves the bits above unchanged
pub upper_kept : (n r : ℕ) → r < 2 ^ 24 → bit_xor n r / 2 ^ 24 ≡ n / 2 ^ 24
upper_kept n r small =
    let none : r / 2 ^ 24 ≡ 0 = omega arith in
    xor_shr n r 24 ∙ rw none (xor_zero_r (n / 2 ^ 24))

pub upper_field : (m n start len : ℕ) → m / 2 ^ 24 ≡ n / 2 ^ 24 → 1 ≤ start → start + len ≤ 89
    → field_at m start len ≡ field_at n start len
upper_field m n start len same begins within =
    let d : ℕ = 89 - start - len in
    let far : 113 - start - len ≡ 24 + d = omega arith in
    rw (far, ← shr-shr m 24 d, ← shr-shr n 24 d, same) refl

-- 256 times a multiple, by doubling
IsMultiple-byte : (n : ℕ) → IsMultiple n → IsMultiple (256 * n)
IsMultiple-byte n is =
    let two = IsMultiple-twice (2 * (2 * (2 * n)))
    (IsMultiple-twice (2 * (2 * n)) (IsMultiple-twice (2 * n) (IsMultiple-twice n is))) in
    let m : ℕ = 2 * (2 * (2 * (2 * n))) in
    let eight = IsMultiple-twice (2 * (2 * (2 * m)))
    (IsMultiple-twice (2 * (2 * m)) (IsMultiple-twice (2 * m) (IsMultiple-twice m two))) in
    let whole : 256 * n ≡ 2 * (2 * (2 * (2 * m))) = omega arith in
    rw whole eight

-- a number below 2^24 is its own remainder
pub IsRemainder-small : (w : ℕ) → w < 2 ^ 24 → IsRemainder w w
IsRemainder-small w small = (small, rw (xor_self w) IsMultiple-zero)

-- numbers whose sum is a multiple have the same remainders
IsRemainder-moved : (m n t : ℕ) → IsMultiple (bit_xor m n) → IsRemainder n t → IsRemainder m t
IsRemainder-moved m n t is (small, rest) =
    let both = IsMultiple-xor (bit_xor m n) (bit_xor n t) is rest in
    let sum : bit_xor (bit_xor m n) (bit_xor n t) ≡ bit_xor m t
    = xor_assoc m n (bit_xor n t)
    ∙ ap (λ x. bit_xor m x) (sym (xor_assoc n n t) ∙ ap (λ x. bit_xor x t) (xor_self n)) in
    (small, rw sum at both)

-- the three bytes of a remainder are replaced by their remainders
IsRemainder-bytes : (h m l w a b c : ℕ) → m < 256 → l < 256 → w < 2 ^ 24
    → IsRemainder (h * 2 ^ 40) a → IsRemainder (m * 2 ^ 32) b → IsRemainder (l * 2 ^ 24) c
    → IsRemainder (h * 2 ^ 40 + (m * 2 ^ 32 + (l * 2 ^ 24 + w))) (bit_xor a (bit_xor b (bit_xor c w)))
IsRemainder-bytes h m l w a b c middle low word first second third =
    let one : bit_xor (l * 2 ^ 24) w ≡ l * 2 ^ 24 + w = xor_shifted l 24 w word in
    let two : bit_xor (m * 2 ^ 32) (l * 2 ^ 24 + w) ≡ m * 2 ^ 32 + (l * 2 ^ 24 + w) =
    xor_shifted m 32 (l * 2 ^ 24 + w) (omega arith) in
    let all : bit_xor (h * 2 ^ 40) (m * 2 ^ 32 + (l * 2 ^ 24 + w)) ≡ h * 2 ^ 40 + (m * 2 ^ 32 + (l * 2 ^ 24 + w))
    = xor_shifted h 40 (m * 2 ^ 32 + (l * 2 ^ 24 + w)) (omega arith) in
    let x = subst (λ k. IsRemainder k (bit_xor c w)) one
    (IsRemainder-sum (l * 2 ^ 24) w c w third (IsRemainder-small w word)) in
    let y = subst (λ k. IsRemainder k (bit_xor b (bit_xor c w))) two
    (IsRemainder-sum (m * 2 ^ 32) (l * 2 ^ 24 + w) b (bit_xor c w) second x) in
    subst (λ k. IsRemainder k (bit_xor a (bit_xor b (bit_xor c w)))) all
    (IsRemainder-sum (h * 2 ^ 40) (m * 2 ^ 32 + (l * 2 ^ 24 + w)) a (bit_xor b (bit_xor c w)) first y)

-- the remainder after 24 more coefficients w
pub IsRemainder-word : (n r w a b c : ℕ) → w < 2 ^ 24 → IsRemainder n r
    → IsRemainder (r / 2 ^ 16 * 2 ^ 40) a → IsRemainder (r / 2 ^ 8 % 256 * 2 ^ 32) b → IsRemainder (r % 256 * 2 ^ 24) c
    → IsRemainder (n * 2 ^ 24 + w) (bit_xor a (bit_xor b (bit_xor c w)))
IsRemainder-word n r w a b c word is first second third =
    let block : bit_xor (n * 2 ^ 24 + w) (r * 2 ^ 24 + w) ≡ bit_xor n r * 2 ^ 24 + bit_xor w w =
    xor_block 24 n r w w word word in
    let shifted : bit_xor n r * 2 ^ 24 + bit_xor w w ≡ 256 * (256 * (256 * bit_xor n r)) = omega (arith, xor_self w) in
    let moved : IsMultiple (bit_xor (n * 2 ^ 24 + w) (r * 2 ^ 24 + w))
    = rw (block, shifted) (IsMultiple-byte _ (IsMultiple-byte _ (IsMultiple-byte (bit_xor n r) is.1))) in
    let parts : r / 2 ^ 16 * 2 ^ 40 + (r / 2 ^ 8 % 256 * 2 ^ 32 + (r % 256 * 2 ^ 24 + w)) ≡ r * 2 ^ 24 + w =
    omega arith in
    let bytes = IsRemainder-bytes (r / 2 ^ 16) (r / 2 ^ 8 % 256) (r % 256) w a b c (omega arith)
    (omega arith) word first second third in
    IsRemainder-moved (n * 2 ^ 24 + w) (r * 2 ^ 24 + w) (bit_xor a (bit_xor b (bit_xor c w))) moved (rw parts at bytes)

-- a number with a remainder has one after one more bit
remainder_more : (n r b : ℕ) → b < 2 → IsRemainder n r → (s : ℕ) × IsRemainder (2 * n + b) s
remainder_more n r b bit is = elim (cases_lt (r * 2 + b) 16777216) [
  | inl low ↦ (r * 2 + b, IsRemainder-kept n r b bit (omega arith) is)
  | inr high ↦ (bit_xor (r * 2 + b) generator, IsRemainder-reduced n r b bit (omega arith) is)
]

-- each number has a remainder
remainder_of_bits : (k n : ℕ) → n < 2 ^ k → (r : ℕ) × IsRemainder n r
remainder_of_bits zero n small =
    let none : n ≡ 0 = omega arith in
    (0, subst (λ x. IsRemainder x 0) (sym none) IsRemainder-zero)
remainder_of_bits (suc k) n small =
    let wide : 2 ^ suc k ≡ 2 ^ k * 2 = pow-suc 2 k in
    let short : n < 2 ^ k * 2 = rw wide at small in
    let before = remainder_of_bits k (n / 2) (omega arith) in
    let more = remainder_more (n / 2) before.0 (n % 2) (omega arith) before.1 in
    let whole : 2 * (n / 2) + n % 2 ≡ n = omega arith in
    (more.0, subst (λ x. IsRemainder x more.0) whole more.1)

pub some_remainder : (n : ℕ) → n < 2 ^ 112 → (r : ℕ) × IsRemainder n r
some_remainder n small = remainder_of_bits 112 n small
