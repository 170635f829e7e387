-- The laws of a span's grid, from `degrees * repeats ≡ 360`.
use Rattle.std.proofs.Common.{◌≡◌, ℕ, zero, suc, ◌*◌, ◌<◌, ◌≤◌, ap, arith, zero-mul, mul-zero, mul-le-mul}
use Rattle.std.proofs.Common.{mul-lt-mul_of_pos_right}
use Rattle.sq_cpr.specs.Span.{Span, FitsCircle}
use Rattle.sq_cpr.specs.Grid.{circle}

-- both numbers are from 1 to 360
pub span_bounds : (w r : ℕ) → w * r ≡ 360 → (1 ≤ w) × (w ≤ 360) × (1 ≤ r) × (r ≤ 360)
span_bounds zero r e = absurd (omega (arith, zero-mul r))
span_bounds (suc w) zero e = absurd (omega (arith, mul-zero (suc w)))
span_bounds (suc w) (suc r) e = omega arith

pub span_limits : (span : Span) → FitsCircle span
    → (1 ≤ span.degrees) × (span.degrees ≤ 360) × (1 ≤ span.repeats) × (span.repeats ≤ 360)
span_limits span e = span_bounds span.degrees span.repeats e

pub circle_positive : (w r z : ℕ) → w * r ≡ 360 → 1 ≤ z → 1 ≤ circle z r
circle_positive w r z e p =
    let b = mul-le-mul p (span_bounds w r e).2 in
    omega arith

-- an index of the circle is below 360 degrees
pub east_small : (w r z b : ℕ) → w * r ≡ 360 → b < circle z r → w * b < 360 * (z * 131072)
east_small w r z b e h =
    let f : (w * r) * (z * 131072) ≡ 360 * (z * 131072) = ap (λ n. n * (z * 131072)) e in
    let g : b * w < z * 131072 * r * w = mul-lt-mul_of_pos_right h (span_bounds w r e).0 in
    omega arith
