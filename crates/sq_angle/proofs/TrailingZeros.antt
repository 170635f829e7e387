-- Greatest common divisors by the zeros at the ends of both numbers.
use Rattle.std.proofs.Common.{◌≡◌, ◌⊎◌, inl, inr, ◌+◌, ◌-◌, ◌*◌, ◌/◌, ◌%◌, ◌^◌, ◌<◌, ◌≤◌, ℕ, min, max, ap, sym}
use Rattle.std.proofs.Common.{subst, subst₂, arith, w64}
use Rattle.std.proofs.Common.{eq-zero-or-pos}
use Rattle.std.proofs.Math.Nat.{div-le_self}
use Rattle.std.proofs.lemmas.Bool.{cases_lt}
use Rattle.std.proofs.lemmas.Nat.Bits.{bit_at-trailing_zeros, bit_at-zero}
use Rattle.std.specs.Int.{IsGcd, bit_at, trailing_zeros}
use Rattle.std.specs.Int.Count.{count_trailing_zeros}
use Rattle.std.proofs.lemmas.Nat.Gcd.{IsGcd-from_sub, IsGcd-swap}
use Rattle.sq_angle.proofs.Twos.{gcd_of_rest, multiple_of_power, times_second}

-- the lowest t bits are 0, and t is z or the next bit is 1
first_zeros : (a z t : ℕ) → a < 2 ^ 64 → z < 64 → t ≡ min z (trailing_zeros w64 a)
    → ((i : ℕ) → i < t → bit_at a i ≡ 0) × ((t ≡ z) ⊎ (a / 2 ^ t % 2 ≡ 1))
unfolding count_trailing_zeros
first_zeros a z t small within is = elim (eq-zero-or-pos a) [
  | inl none ↦
      let all : trailing_zeros w64 a ≡ 64 = ap (trailing_zeros w64) none in
      (λ i l. subst (λ n. bit_at n i ≡ 0) (sym none) (bit_at-zero i), inl (omega (arith, is, all, within)))
  | inr some ↦ some_zeros (trailing_zeros w64 a) is (bit_at-trailing_zeros w64 a some small)
]
  where
    some_zeros : (n : ℕ) → t ≡ min z n → (n < 64) × (bit_at a n ≡ 1) × ((i : ℕ) → i < n → bit_at a i ≡ 0)
        → ((i : ℕ) → i < t → bit_at a i ≡ 0) × ((t ≡ z) ⊎ (a / 2 ^ t % 2 ≡ 1))
    some_zeros n least low = (
      λ i l. low.2 i (omega (arith, least, l)),
      elim (cases_lt n z) [
        | inl less ↦
            let same : t ≡ n = omega (arith, least, less) in
            inr (subst (λ k. a / 2 ^ k % 2 ≡ 1) (sym same) low.1)
        | inr more ↦ inl (omega (arith, least, more))
      ],
    )

-- the greatest common divisor is a power of two times that of the numbers without their factors of two
pub gcd_by_zeros : (a b t g : ℕ) → 0 < b → a < 2 ^ 64 → b < 2 ^ 64
    → t ≡ min (trailing_zeros w64 b) (trailing_zeros w64 a)
    → IsGcd (a / 2 ^ t) (b / 2 ^ trailing_zeros w64 b) g → IsGcd a b (2 ^ t * g)
gcd_by_zeros a b t g some small_a small_b is h =
    let low = bit_at-trailing_zeros w64 b some small_b in
    let first = first_zeros a (trailing_zeros w64 b) t small_a low.0 is in
    gcd_of_rest a b t (trailing_zeros w64 b) g (multiple_of_power a t first.0)
    (multiple_of_power b (trailing_zeros w64 b) low.2) (omega (arith, is)) first.1 h

-- a number without its factors of two is odd
pub odd_rest : (n : ℕ) → 0 < n → n < 2 ^ 64 → n / 2 ^ trailing_zeros w64 n % 2 ≡ 1
odd_rest n some small = (bit_at-trailing_zeros w64 n some small).1

-- factors of two do not change the greatest common divisor with an odd number
pub gcd_by_rest : (x y g : ℕ) → 0 < x → x < 2 ^ 64 → y % 2 ≡ 1 → IsGcd (x / 2 ^ trailing_zeros w64 x) y g → IsGcd x y g
gcd_by_rest x y g some small odd h =
    let t = trailing_zeros w64 x in
    let rest = x / 2 ^ t in
    let whole : 2 ^ t * rest ≡ x = multiple_of_power x t (bit_at-trailing_zeros w64 x some small).2 in
    let twice : IsGcd y (2 ^ t * rest) g = times_second t y rest g odd (IsGcd-swap rest y g h) in
    IsGcd-swap y x g (subst (λ n. IsGcd y n g) whole twice)

-- A step of the binary algorithm: `x` loses its factors of two, and the difference and the smaller of both keep their
-- greatest common divisor.
pub gcd_by_step : (x y d m g : ℕ) → 0 < x → x < 2 ^ 64 → y % 2 ≡ 1 → m ≡ min (x / 2 ^ trailing_zeros w64 x) y
    → d ≡ max (x / 2 ^ trailing_zeros w64 x) y - min (x / 2 ^ trailing_zeros w64 x) y → IsGcd d m g → IsGcd x y g
gcd_by_step x y d m g some small odd least apart h =
    let o : ℕ = x / 2 ^ trailing_zeros w64 x in
    gcd_by_rest x y g some small odd (elim (cases_lt o y) [
      | inl less ↦
          let is_m : m ≡ o = omega (arith, least, less) in
          let is_d : d ≡ y - o = omega (arith, apart, less) in
          IsGcd-swap y o g (IsGcd-from_sub y o g (omega (arith, less)) (subst₂ (λ a b. IsGcd a b g) is_d is_m h))
      | inr more ↦
          let is_m : m ≡ y = omega (arith, least, more) in
          let is_d : d ≡ o - y = omega (arith, apart, more) in
          IsGcd-from_sub o y g more (subst₂ (λ a b. IsGcd a b g) is_d is_m h)
    ])

-- after a step the smaller number is odd
pub odd_after_step : (x y m : ℕ) → 0 < x → x < 2 ^ 64 → y % 2 ≡ 1 → m ≡ min (x / 2 ^ trailing_zeros w64 x) y → m % 2 ≡ 1
odd_after_step x y m some small odd least =
    let o : ℕ = x / 2 ^ trailing_zeros w64 x in
    elim (cases_lt o y) [
      | inl less ↦
          let is : m ≡ o = omega (arith, least, less) in
          subst (λ n. n % 2 ≡ 1) (sym is) (odd_rest x some small)
      | inr more ↦
          let is : m ≡ y = omega (arith, least, more) in
          subst (λ n. n % 2 ≡ 1) (sym is) odd
    ]

-- each step makes the sum of both numbers smaller
pub less_after_step : (x y d m : ℕ) → 0 < x → y % 2 ≡ 1 → m ≡ min (x / 2 ^ trailing_zeros w64 x) y
    → d ≡ max (x / 2 ^ trailing_zeros w64 x) y - min (x / 2 ^ trailing_zeros w64 x) y → d + m < x + y
less_after_step x y d m some odd least apart =
    let within : x / 2 ^ trailing_zeros w64 x ≤ x = div-le_self x (2 ^ trailing_zeros w64 x) in
    omega (arith, within, least, apart, odd, some)
