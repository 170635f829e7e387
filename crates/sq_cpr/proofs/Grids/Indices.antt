-- The index that lies in a window, over plain numbers.
use Rattle.std.proofs.Common.{◌≡◌, ℕ, ◌*◌, ◌<◌, ◌≤◌, ℤ, pos, neg_ℤ, ◌+ℤ◌, ◌-ℤ◌, ◌*ℤ◌, ◌≤ℤ◌, ◌<ℤ◌, unsigned_abs, arith}
use Rattle.std.proofs.Common.{◌^◌, subst, mul_comm, mul-le-mul_right, le_of_mul-le-mul_right}
use Rattle.std.proofs.Math.IntN.{negsuc}
use Rattle.std.proofs.lemmas.Int.{ints, unsigned_abs-mul}
use Rattle.std.specs.Int.{int_div_euclid}
use Rattle.sq_angle.specs.Fraction.{Fraction, IsWithin}
use Rattle.sq_angle.specs.Scale.{scales, scale_comm, scale-le, scale-lt, scale-neg, scale-scale}
use Rattle.sq_angle.proofs.Rounding.{IsRounded}
use Rattle.sq_angle.proofs.Sizes.{mul_pos, scaled_size}
use Rattle.sq_angle.proofs.Windows.{quotient_down_parts}
use Rattle.sq_cpr.specs.Grid.{codes_of_zone}
use Rattle.sq_cpr.specs.Multiplied.{LiesWithin}

-- twice the distance of the resulting index from the reference
pub settled : (count step steps : ℕ) (base num turns : ℤ) →
    pos 2 *ℤ (pos step *ℤ (base +ℤ pos (count * codes_of_zone) *ℤ neg_ℤ turns) -ℤ pos steps *ℤ num)
    ≡ pos 2 *ℤ (pos step *ℤ base -ℤ pos steps *ℤ num) -ℤ pos (2 * (count * codes_of_zone * step)) *ℤ turns
settled count step steps base num turns = simp scales (omega (arith, ints))

-- The index within half a period of 0, from the quotient of twice the base.
pub settled_at_zero : (period : ℕ) (base q : ℤ) → 0 < period →
    (pos (2 * period) *ℤ q) ≤ℤ (pos 2 *ℤ base +ℤ (pos period -ℤ pos 1))
    → (pos 2 *ℤ base +ℤ (pos period -ℤ pos 1)) <ℤ (pos (2 * period) *ℤ q +ℤ pos (2 * period)) →
    (neg_ℤ (pos period) <ℤ (pos 2 *ℤ (base -ℤ pos period *ℤ q))) × ((pos 2 *ℤ (base -ℤ pos period *ℤ q)) ≤ℤ pos period)
settled_at_zero period base q h low high =
    let e : pos 2 *ℤ (pos period *ℤ q) ≡ pos (2 * period) *ℤ q = scale-scale 2 period q in
    (omega (arith, ints), omega (arith, ints))

-- an index within half a period of 0 lies in the window of a reference at 0 degrees
pub within_at_zero : (count degrees zones : ℕ) (index : ℤ) (r : Fraction) → r.num ≡ pos 0 → 0 < degrees → 0 < r.den
    → neg_ℤ (pos (count * codes_of_zone)) <ℤ (pos 2 *ℤ index) → (pos 2 *ℤ index) ≤ℤ pos (count * codes_of_zone)
    → LiesWithin count degrees zones index r
within_at_zero count degrees zones index r e d p low high =
    let unit : ℕ = degrees * r.den in
    let period : ℕ = count * codes_of_zone in
    let none : pos (zones * codes_of_zone) *ℤ r.num ≡ pos 0 = rw e (omega (arith, ints)) in
    let twice : pos unit *ℤ (pos 2 *ℤ index) ≡ pos 2 *ℤ (pos unit *ℤ index) = scale_comm unit 2 index in
    let width : pos unit *ℤ pos period ≡ pos (period * unit) = omega (arith, ints, mul_comm unit period) in
    let back : pos unit *ℤ neg_ℤ (pos period) ≡ neg_ℤ (pos unit *ℤ pos period) = scale-neg unit (pos period) in
    let under = scale-lt unit (neg_ℤ (pos period)) (pos 2 *ℤ index) (mul_pos degrees r.den d p) low in
    let over = scale-le unit (pos 2 *ℤ index) (pos period) high in
    (omega (arith, ints), omega (arith, ints))

-- An index within half a span of a reference is below 2^31.
abs_at_most : (a : ℤ) (n : ℕ) → a ≤ℤ pos n → neg_ℤ (pos n) ≤ℤ a → unsigned_abs a ≤ n
abs_at_most (pos a) n h k = omega (arith, ints)
abs_at_most (negsuc a) n h k = omega (arith, ints)

pub index_small : (count degrees zones : ℕ) (index : ℤ) (r : Fraction) → count ≤ 60 → zones ≤ 60 → 0 < degrees
    → 0 < r.den → IsWithin 180 r →
    LiesWithin count degrees zones index r → unsigned_abs index < 2 ^ 31
index_small count degrees zones index r c z d p w h =
    let unit : ℕ = degrees * r.den in
    let positive : 0 < unit = mul_pos degrees r.den d p in
    let steps : unsigned_abs (pos (zones * codes_of_zone) *ℤ r.num) ≤ 60 * codes_of_zone * (180 * r.den) =
    scaled_size (zones * codes_of_zone) (60 * codes_of_zone) (180 * r.den) r.num (omega arith) w in
    let more : 1 * r.den ≤ degrees * r.den = mul-le-mul_right r.den d in
    let width : count * codes_of_zone * unit ≤ 60 * codes_of_zone * unit = mul-le-mul_right unit (omega arith) in
    let size : unsigned_abs (pos unit *ℤ index) ≤ 1422000000 * unit = abs_at_most (pos unit *ℤ index)
    (1422000000 * unit) (omega (arith, ints, h.0, h.1)) (omega (arith, ints, h.0, h.1)) in
    let product : unsigned_abs index * unit ≤ 1422000000 * unit = omega (arith, unsigned_abs-mul (pos unit) index) in
    let small : unsigned_abs index ≤ 1422000000 = le_of_mul-le-mul_right product positive in
    omega arith

-- the quotient by a positive number, rounded down
pub quotient_parts : (value q divisor : ℤ) → pos 0 <ℤ divisor → q ≡ int_div_euclid value divisor →
    ((divisor *ℤ q) ≤ℤ value) × (value <ℤ (divisor *ℤ q +ℤ divisor)) × (unsigned_abs q ≤ unsigned_abs value)
quotient_parts value q divisor some e =
    let positive : pos (unsigned_abs divisor) ≡ divisor = omega (arith, ints) in
    subst (λ d. q ≡ int_div_euclid value d
    → ((d *ℤ q) ≤ℤ value) × (value <ℤ (d *ℤ q +ℤ d)) × (unsigned_abs q ≤ unsigned_abs value)) positive
    (quotient_down_parts value q (unsigned_abs divisor) (omega (arith, ints))) e

-- The whole number nearest to v / (2 e) is small if v is small.
pub rounded_small : (v q : ℤ) (e : ℕ) → 0 < e → unsigned_abs v ≤ 5662310400 * e → IsRounded v e q
    → unsigned_abs q < 2 ^ 40
rounded_small v q e some size r =
    let wide : unsigned_abs (pos (2 * e) *ℤ q) ≤ 5662310403 * e = abs_at_most (pos (2 * e) *ℤ q) (5662310403 * e)
    (omega (arith, ints, r.from, size)) (omega (arith, ints, r.below, size)) in
    let product : unsigned_abs q * (2 * e) ≤ 2831155202 * (2 * e) =
    omega (arith, wide, unsigned_abs-mul (pos (2 * e)) q) in
    let small : unsigned_abs q ≤ 2831155202 = le_of_mul-le-mul_right product (omega arith) in
    omega arith
