-- Quotients by products with reciprocals.
use Rattle.std.proofs.Common.{◌≡◌, ℕ, zero, suc, ◌+◌, ◌*◌, ◌/◌, ◌%◌, ◌<◌, ◌≤◌, ◌^◌, map, get_or, refl, ap, ◌∙◌, arith}
use Rattle.std.proofs.Common.{mul-le-mul_left, mul-le-mul_right, lt_of_mul-lt-mul_right}
use Rattle.std.proofs.Math.Nat.{div-mul-le_self, lt-div-mul-add, div-div-eq-div-mul}
use Rattle.std.proofs.lemmas.Grind.{div_ceil_times}
use Rattle.std.proofs.lemmas.List.FromFn.{get_or-map-range_with_len}
use Rattle.std.specs.Int.{div_ceil}
use Rattle.std.specs.List.{range_with_len}
use Rattle.sq_angle.specs.declared.quotients.TheConstants.{RECIPROCALS}

-- 2^48 / z, rounded up
abbrev reciprocal : ℕ → ℕ
reciprocal zero = 0
reciprocal (suc z) = div_ceil (2 ^ 48) (suc z)

table_is : RECIPROCALS ≡ map reciprocal (range_with_len 0 128)
table_is = refl

-- z times the entry of z is at least 2^48 and below 2^48 + z
pub entry : (z : ℕ) → 0 < z → z < 128
    → (2 ^ 48 ≤ get_or RECIPROCALS z 0 * z) × (get_or RECIPROCALS z 0 * z < 2 ^ 48 + z)
entry zero some few = absurd (omega arith)
entry (suc z) some few =
    let is : get_or RECIPROCALS (suc z) 0 ≡ div_ceil (2 ^ 48) (suc z)
    = ap (λ t. get_or t (suc z) 0) table_is
    ∙ get_or-map-range_with_len reciprocal 0 128 (suc z) (suc z) 0 few (omega arith) in
    rw is (div_ceil_times (2 ^ 48) (suc z) some)

-- x / z, by a factor slightly above 2^48 / z
pub by_reciprocal : (x z r : ℕ) → 0 < z → 2 ^ 48 ≤ r * z → r * z < 2 ^ 48 + z → x * z < 2 ^ 48 → x * r / 2 ^ 48 ≡ x / z
by_reciprocal x z r some low high small =
    let q : ℕ = x / z in
    let down : q * z ≤ x = div-mul-le_self x z in
    let up : x < q * z + z = lt-div-mul-add some in
    let least : q * 2 ^ 48 ≤ q * (r * z) = mul-le-mul_left q low in
    let more : q * z * r ≤ x * r = mul-le-mul_right r down in
    let high' : r * z + 1 ≤ 2 ^ 48 + z = omega (arith, high) in
    let most : x * (r * z + 1) ≤ x * (2 ^ 48 + z) = mul-le-mul_left x high' in
    let below : x * r * z < (q * 2 ^ 48 + 2 ^ 48) * z = omega (arith, most, small, up) in
    let next : x * r < q * 2 ^ 48 + 2 ^ 48 = lt_of_mul-lt-mul_right z below in
    omega (arith, least, more, next)

-- v / d in two steps, if d is a multiple of 2^17
pub by_steps : (v d : ℕ) → d % 131072 ≡ 0 → v / 131072 / (d / 131072) ≡ v / d
by_steps v d whole =
    let is : 131072 * (d / 131072) ≡ d = omega (arith, whole) in
    div-div-eq-div-mul v 131072 (d / 131072) ∙ ap (λ n. v / n) is
