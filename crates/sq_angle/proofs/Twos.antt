-- Common divisors of numbers without their powers of two.
use Rattle.std.proofs.Common.{◌≡◌, ◌⊎◌, inl, inr, ◌+◌, ◌*◌, ◌/◌, ◌%◌, ◌<◌, ◌≤◌, ℕ, zero, suc, ap, ◌∙◌, sym, subst, refl}
use Rattle.std.proofs.Common.{arith, ◌-◌, ◌^◌, ap₂, one-mul, subst₂, pow-add, shr-shr}
use Rattle.std.specs.Int.{bit_at}
use Rattle.std.proofs.Math.Nat.{mul-div_cancel', pow-suc, mul_assoc, mul_comm, add-mul, dvd-mul_right, dvd-mul_left_of_dvd}
use Rattle.std.proofs.Math.Nat.{mul-dvd-mul_left, dvd_of_mul-dvd-mul_left}
use Rattle.std.specs.Int.{IsGcd, ◌∣◌}

-- a number is even or odd
parity : (n : ℕ) → (n % 2 ≡ 0) ⊎ (n % 2 ≡ 1)
parity n = cases (n % 2) (omega arith)
  where
    cases : (r : ℕ) → r < 2 → (r ≡ 0) ⊎ (r ≡ 1)
    cases zero h = inl refl
    cases (suc zero) h = inr refl
    cases (suc (suc r)) h = absurd (omega (arith, h))

-- a multiple of an even number is even
even_multiple : (d q : ℕ) → d % 2 ≡ 0 → (d * q) % 2 ≡ 0
even_multiple d q even =
    let doubled : 2 * (d / 2) * q ≡ d * q = ap (λ n. n * q) (omega (arith, even)) in
    omega (arith, doubled, mul_assoc 2 (d / 2) q)

-- a product of odd numbers is odd
odd_multiple : (d q : ℕ) → d % 2 ≡ 1 → q % 2 ≡ 1 → (d * q) % 2 ≡ 1
odd_multiple d q odd both =
    let more : (2 * (d / 2) + 1) * q ≡ d * q = ap (λ n. n * q) (omega (arith, odd)) in
    omega (arith, both, more, add-mul (2 * (d / 2)) 1 q, mul_assoc 2 (d / 2) q)

-- every divisor of an odd number is odd
odd_divisor : (d x : ℕ) → d ∣ x → x % 2 ≡ 1 → d % 2 ≡ 1
odd_divisor d x h odd = case (parity d)
  where
    case : (d % 2 ≡ 0) ⊎ (d % 2 ≡ 1) → d % 2 ≡ 1
    case (inr is) = is
    case (inl is) = absurd (omega (arith, odd, mul-div_cancel' d h, even_multiple d (x / d) is))

-- an odd divisor of 2 m divides m
odd_divides_half : (d m : ℕ) → d % 2 ≡ 1 → d ∣ 2 * m → d ∣ m
odd_divides_half d m odd h = case (parity (2 * m / d))
  where
    whole : d * (2 * m / d) ≡ 2 * m
    whole = mul-div_cancel' d h

    case : ((2 * m / d) % 2 ≡ 0) ⊎ ((2 * m / d) % 2 ≡ 1) → d ∣ m
    case (inr is) = absurd (omega (arith, whole, odd_multiple d (2 * m / d) odd is))
    case (inl is) =
        let r = 2 * m / d / 2 in
        let halved : d * (2 * r) ≡ 2 * m = ap (λ n. d * n) (omega (arith, is)) ∙ whole in
        let turned : d * (2 * r) ≡ 2 * (d * r) =
        sym (mul_assoc d 2 r) ∙ ap (λ n. n * r) (mul_comm d 2) ∙ mul_assoc 2 d r in
        let half : d * r ≡ m = omega (arith, halved, turned) in
        subst (λ n. d ∣ n) half (dvd-mul_right d r)

-- the greatest common divisor of even numbers is twice that of their halves
pub gcd_of_halves : (x y g : ℕ) → x % 2 ≡ 0 → y % 2 ≡ 0 → IsGcd (x / 2) (y / 2) g → IsGcd x y (2 * g)
gcd_of_halves x y g ex ey h = (of_x, of_y, greatest)
  where
    x_is : 2 * (x / 2) ≡ x
    x_is = omega (arith, ex)

    y_is : 2 * (y / 2) ≡ y
    y_is = omega (arith, ey)

    of_x : 2 * g ∣ x
    of_x = subst (λ n. 2 * g ∣ n) x_is (mul-dvd-mul_left g 2 h.0)

    of_y : 2 * g ∣ y
    of_y = subst (λ n. 2 * g ∣ n) y_is (mul-dvd-mul_left g 2 h.1)

    by_parity : (d : ℕ) → d ∣ 2 * (x / 2) → d ∣ 2 * (y / 2) → (d % 2 ≡ 0) ⊎ (d % 2 ≡ 1) → d ∣ 2 * g
    by_parity d p q (inr odd) = dvd-mul_left_of_dvd d
        (h.2 d (odd_divides_half d (x / 2) odd p) (odd_divides_half d (y / 2) odd q)) 2
    by_parity d p q (inl even) =
        let half : 2 * (d / 2) ≡ d = omega (arith, even) in
        let in_x : d / 2 ∣ x / 2 = dvd_of_mul-dvd-mul_left (d / 2) (omega arith)
        (subst (λ n. n ∣ 2 * (x / 2)) (sym half) p) in
        let in_y : d / 2 ∣ y / 2 = dvd_of_mul-dvd-mul_left (d / 2) (omega arith)
        (subst (λ n. n ∣ 2 * (y / 2)) (sym half) q) in
        subst (λ n. n ∣ 2 * g) half (mul-dvd-mul_left (d / 2) 2 (h.2 (d / 2) in_x in_y))

    greatest : (d : ℕ) → d ∣ x → d ∣ y → d ∣ 2 * g
    greatest d p q = by_parity d (subst (λ n. d ∣ n) (sym x_is) p) (subst (λ n. d ∣ n) (sym y_is) q) (parity d)

-- the greatest common divisor of an odd and an even number is that of the odd one and half the even one
pub gcd_of_half : (x y g : ℕ) → x % 2 ≡ 1 → y % 2 ≡ 0 → IsGcd x (y / 2) g → IsGcd x y g
gcd_of_half x y g odd ey h = (h.0, of_y, greatest)
  where
    y_is : 2 * (y / 2) ≡ y
    y_is = omega (arith, ey)

    of_y : g ∣ y
    of_y = subst (λ n. g ∣ n) y_is (dvd-mul_left_of_dvd g h.1 2)

    greatest : (d : ℕ) → d ∣ x → d ∣ y → d ∣ g
    greatest d p q = h.2 d p (odd_divides_half d (y / 2) (odd_divisor d x p odd) (subst (λ n. d ∣ n) (sym y_is) q))

-- a number with k lowest bits 0 is a multiple of 2^k
pub multiple_of_power : (n k : ℕ) → ((i : ℕ) → i < k → bit_at n i ≡ 0) → 2 ^ k * (n / 2 ^ k) ≡ n
multiple_of_power n zero clear = omega arith
multiple_of_power n (suc k) clear =
    let rest = multiple_of_power n k (λ i l. clear i (omega (arith, l))) in
    let even : n / 2 ^ k % 2 ≡ 0 = clear k (omega arith) in
    let one : k + 1 ≡ suc k = omega arith in
    let half : n / 2 ^ k / 2 ≡ n / 2 ^ suc k = shr-shr n k 1 ∙ ap (λ j. n / 2 ^ j) one in
    let power : 2 ^ k * 2 ≡ 2 ^ suc k = omega (arith, pow-suc 2 k) in
    let whole : 2 * (n / 2 ^ k / 2) ≡ n / 2 ^ k = omega (arith, even) in
    ap₂ (λ p q. p * q) (sym power) (sym half) ∙ mul_assoc (2 ^ k) 2 (n / 2 ^ k / 2) ∙ ap (λ m. 2 ^ k * m) whole ∙ rest

-- the greatest common divisor of two numbers that are both multiplied by a power of two
times_both : (k x y g : ℕ) → IsGcd x y g → IsGcd (2 ^ k * x) (2 ^ k * y) (2 ^ k * g)
times_both zero x y g h = rw (one-mul x, one-mul y, one-mul g) h
times_both (suc k) x y g h =
    let p = 2 ^ k in
    let power : 2 * p ≡ 2 ^ suc k = omega (arith, pow-suc 2 k) in
    let half_x : 2 * (p * x) / 2 ≡ p * x = omega arith in
    let half_y : 2 * (p * y) / 2 ≡ p * y = omega arith in
    let twice : IsGcd (2 * (p * x)) (2 * (p * y)) (2 * (p * g)) =
    gcd_of_halves (2 * (p * x)) (2 * (p * y)) (p * g) (omega arith) (omega arith)
    (rw (half_x, half_y) (times_both k x y g h)) in
    subst (λ n. IsGcd (n * x) (n * y) (n * g)) power (rw (mul_assoc 2 p x, mul_assoc 2 p y, mul_assoc 2 p g) twice)

-- multiplying a number by a power of two does not change its greatest common divisor with an odd number
pub times_second : (k x y g : ℕ) → x % 2 ≡ 1 → IsGcd x y g → IsGcd x (2 ^ k * y) g
times_second zero x y g odd h = rw (one-mul y) h
times_second (suc k) x y g odd h =
    let p = 2 ^ k in
    let power : 2 * p ≡ 2 ^ suc k = omega (arith, pow-suc 2 k) in
    let half : 2 * (p * y) / 2 ≡ p * y = omega arith in
    let twice : IsGcd x (2 * (p * y)) g =
    gcd_of_half x (2 * (p * y)) g odd (omega arith) (rw half (times_second k x y g odd h)) in
    subst (λ n. IsGcd x (n * y) g) power (rw (mul_assoc 2 p y) twice)

-- The greatest common divisor of two numbers, from that of their rests. The second loses z factors of two. The first
-- loses as many, or all that it has.
pub gcd_of_rest : (a b t z g : ℕ) → 2 ^ t * (a / 2 ^ t) ≡ a → 2 ^ z * (b / 2 ^ z) ≡ b → t ≤ z
    → (t ≡ z) ⊎ (a / 2 ^ t % 2 ≡ 1) → IsGcd (a / 2 ^ t) (b / 2 ^ z) g → IsGcd a b (2 ^ t * g)
gcd_of_rest a b t z g of_a of_b within (inl same) h =
    let both : 2 ^ t * (b / 2 ^ z) ≡ b = ap (λ k. 2 ^ k * (b / 2 ^ z)) same ∙ of_b in
    subst₂ (λ x y. IsGcd x y (2 ^ t * g)) of_a both (times_both t (a / 2 ^ t) (b / 2 ^ z) g h)
gcd_of_rest a b t z g of_a of_b within (inr odd) h =
    let more : t + (z - t) ≡ z = omega (arith, within) in
    let power : 2 ^ t * 2 ^ (z - t) ≡ 2 ^ z = sym (pow-add 2 t (z - t)) ∙ ap (λ k. 2 ^ k) more in
    let both : 2 ^ t * (2 ^ (z - t) * (b / 2 ^ z)) ≡ b =
    sym (mul_assoc (2 ^ t) (2 ^ (z - t)) (b / 2 ^ z)) ∙ ap (λ n. n * (b / 2 ^ z)) power ∙ of_b in
    subst₂ (λ x y. IsGcd x y (2 ^ t * g)) of_a both
    (times_both t (a / 2 ^ t) (2 ^ (z - t) * (b / 2 ^ z)) g
    (times_second (z - t) (a / 2 ^ t) (b / 2 ^ z) g odd h))
