-- Division of a signed number by a positive natural number, rounded down, and blocks of d numbers.
use Rattle.std.proofs.Common.{◌≡◌, ℕ, ◌+◌, ◌*◌, ◌/◌, ◌<◌, ◌≤◌, ℤ, pos, ◌+ℤ◌, ◌*ℤ◌, ◌≤ℤ◌, ◌<ℤ◌, ap₂, ◌∙◌, sym, arith}
use Rattle.std.proofs.Common.{unsigned_abs, mul-le-mul_left}
use Rattle.std.proofs.Math.IntN.{negsuc}
use Rattle.std.proofs.lemmas.Int.{ints, by_lt_z}
use Rattle.std.specs.Int.{int_div_euclid, int_rem_euclid}
use Rattle.sq_angle.specs.Scale.{scale-sum, lt_of_scale}
use borrow.Author.Differences.{up, down}

-- the quotient's multiple is at most the number
pub div_euclid-le : (m : ℤ) (d : ℕ) → 0 < d → (pos d *ℤ int_div_euclid m (pos d)) ≤ℤ m
div_euclid-le (pos n) d p = omega (arith, ints)
div_euclid-le (negsuc n) d p = omega (arith, ints)

-- the number is below the next multiple
pub div_euclid-lt : (m : ℤ) (d : ℕ) → 0 < d → m <ℤ (pos d *ℤ int_div_euclid m (pos d) +ℤ pos d)
div_euclid-lt (pos n) d p = omega (arith, ints)
div_euclid-lt (negsuc n) d p = omega (arith, ints)

-- a quotient of natural numbers is at most the number
div-le : (n d : ℕ) → 0 < d → n / d ≤ n
div-le n d p = omega arith

-- the magnitude of the quotient is at most that of the number
pub div_euclid-small : (m : ℤ) (d : ℕ) → 0 < d → unsigned_abs (int_div_euclid m (pos d)) ≤ unsigned_abs m
div_euclid-small (pos n) d p = omega arith
div_euclid-small (negsuc n) d p = omega (arith, div-le n d p)

-- a number is its remainder plus a whole multiple of the divisor
pub div_rem : (m : ℤ) (d : ℕ) → 0 < d → m ≡ int_rem_euclid m (pos d) +ℤ pos d *ℤ int_div_euclid m (pos d)
div_rem (pos n) d p = omega (arith, ints)
div_rem (negsuc n) d p = omega (arith, ints)

-- the remainder is a natural number below the divisor
pub remainder_below : (m : ℤ) (d : ℕ) → 0 < d → unsigned_abs (int_rem_euclid m (pos d)) < d
remainder_below (pos n) d p = omega arith
remainder_below (negsuc n) d p = omega arith

-- a number is a natural remainder plus a whole multiple of the divisor
pub remainder_split : (m : ℤ) (d : ℕ) → 0 < d
    → m ≡ pos (unsigned_abs (int_rem_euclid m (pos d))) +ℤ pos d *ℤ int_div_euclid m (pos d)
remainder_split (pos n) d p = omega (arith, ints)
remainder_split (negsuc n) d p = omega (arith, ints)

-- the remainder as a natural number
pub rem_is_pos : (m : ℤ) (d : ℕ) → 0 < d → (r : ℕ) × (int_rem_euclid m (pos d) ≡ pos r) × (r < d)
rem_is_pos (pos n) d p = (
  unsigned_abs (int_rem_euclid (pos n) (pos d)),
  omega (arith, ints),
  remainder_below (pos n) d p,
)
rem_is_pos (negsuc n) d p = (
  unsigned_abs (int_rem_euclid (negsuc n) (pos d)),
  omega (arith, ints),
  remainder_below (negsuc n) d p,
)

-- k a < k b + k gives a ≤ b
pub le_from_scaled : (k : ℕ) (a b : ℤ) → (pos k *ℤ a) <ℤ (pos k *ℤ b +ℤ pos k) → a ≤ℤ b
le_from_scaled k a b h =
    by_lt_z b a
    (λ less. let more : k * (up b + down a + 1) ≤ k * (up a + down b) = mul-le-mul_left k
    (omega (arith, ints)) in absurd (omega (arith, ints)))
    (λ done. done)

-- d a ≤ m < d b + d gives a < b + 1
pub quotient_below : (a b : ℤ) (m : ℤ) (d : ℕ) → (pos d *ℤ a) ≤ℤ m → m <ℤ (pos d *ℤ b +ℤ pos d) → a <ℤ (b +ℤ pos 1)
quotient_below a b m d h k =
    let e = scale-sum d b (pos 1) in
    lt_of_scale d a (b +ℤ pos 1) (omega (arith, ints))

-- a number lies in at most one block of d numbers
pub block_once : (i j : ℤ) (m : ℤ) (d : ℕ) → (pos d *ℤ i) ≤ℤ m → m <ℤ (pos d *ℤ i +ℤ pos d) → (pos d *ℤ j) ≤ℤ m
    → m <ℤ (pos d *ℤ j +ℤ pos d) → i ≡ j
block_once i j m d a b c e =
    let h = quotient_below i j m d a e in
    let g = quotient_below j i m d c b in
    omega (arith, ints)

-- the block of a number is its quotient
pub block_quotient : (j : ℤ) (m : ℤ) (d : ℕ) → 0 < d → (pos d *ℤ j) ≤ℤ m → m <ℤ (pos d *ℤ j +ℤ pos d)
    → int_div_euclid m (pos d) ≡ j
block_quotient j m d p a b = block_once (int_div_euclid m (pos d)) j m d (div_euclid-le m d p) (div_euclid-lt m d p) a b

-- two numbers of one block with the same remainder are equal
pub same_in_block : (j : ℤ) (m n : ℤ) (d : ℕ) → 0 < d → (pos d *ℤ j) ≤ℤ m → m <ℤ (pos d *ℤ j +ℤ pos d)
    → (pos d *ℤ j) ≤ℤ n → n <ℤ (pos d *ℤ j +ℤ pos d)
    → unsigned_abs (int_rem_euclid m (pos d)) ≡ unsigned_abs (int_rem_euclid n (pos d)) → m ≡ n
same_in_block j m n d p a b a' b' e =
    let q = block_quotient j m d p a b in
    let q' = block_quotient j n d p a' b' in
    remainder_split m d p ∙ ap₂ (λ (r : ℕ) (k : ℤ). pos r +ℤ pos d *ℤ k) e (q ∙ sym q') ∙ sym (remainder_split n d p)
