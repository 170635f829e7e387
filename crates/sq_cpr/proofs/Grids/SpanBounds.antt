-- The nearest latitude of a span's grid lies in -90 to 90 degrees, and its index is small.
use Rattle.std.proofs.Common.{◌≡◌, ℕ, ◌*◌, ◌≤◌, ℤ, pos, neg_ℤ, ◌+ℤ◌, ◌*ℤ◌, ◌<ℤ◌, ap, arith, unsigned_abs}
use Rattle.std.proofs.Common.{mul-le-mul_right}
use Rattle.std.proofs.lemmas.Int.{ints, unsigned_abs-mul}
use Rattle.sq_angle.specs.Fraction.{Fraction, IsWithin}
use Rattle.sq_angle.specs.Nearest.{IsNearest}
use Rattle.sq_angle.specs.Scale.{scale-le, scale-neg}
use Rattle.sq_angle.proofs.Floors.{quotient_below}
use Rattle.sq_angle.proofs.Rounding.{rounded_from_nearest}
use Rattle.sq_zones.specs.declared.parity.Parity.{Parity}
use Rattle.sq_zones.specs.declared.parity.Parity.TheVariants.{Even, Odd}
use Rattle.sq_cpr.specs.Grid.{IsLatitude, step, lat_zones}
use Rattle.sq_cpr.proofs.Grids.Spans.{span_bounds}

-- 90 degrees are a whole number of latitude steps
quarter : (w r z xd : ℕ) → w * r ≡ 360 → (2 * (xd * w)) * (z * 32768 * r) ≡ (2 * (z * 131072)) * (90 * xd)
quarter w r z xd e =
    let f : (w * r) * (z * xd * 65536) ≡ 360 * (z * xd * 65536) = ap (λ n. n * (z * xd * 65536)) e in
    omega arith

-- the index nearest to a latitude within 90 degrees has a latitude within 90 degrees
pub nearest_within_90 : (x : Fraction) (w r z : ℕ) (a : ℤ) → w * r ≡ 360 → 1 ≤ x.den → IsWithin 90 x
    → IsNearest x (step w z) a → IsWithin 90 (record { num = pos w *ℤ a; den = z * 131072 })
nearest_within_90 x w r z a e p h n =
    let E = 2 * (x.den * w) in
    let D = 2 * (z * 131072) in
    let B = z * 32768 * r in
    let m = pos D *ℤ x.num +ℤ pos (x.den * w) in
    let q = quarter w r z x.den e in
    let q' = quarter w r z 1 e in
    let rounded = rounded_from_nearest x w (z * 131072) a n in
    let above' = scale-le D x.num (pos (90 * x.den)) (omega (arith, ints)) in
    let below' = scale-le D (neg_ℤ (pos (90 * x.den))) x.num (omega (arith, ints)) in
    let n1 = scale-neg E (pos B) in
    let n2 = scale-neg D (pos (90 * x.den)) in
    let n3 = scale-neg w (pos B) in
    let wide = (span_bounds w r e).0 in
    let east : a <ℤ (pos B +ℤ pos 1) = quotient_below a (pos B) m E rounded.from (omega (arith, ints)) in
    let west : neg_ℤ (pos B) <ℤ (a +ℤ pos 1) =
    quotient_below (neg_ℤ (pos B)) a m E (omega (arith, ints)) rounded.below in
    let east' = scale-le w a (pos B) (omega (arith, ints)) in
    let west' = scale-le w (neg_ℤ (pos B)) a (omega (arith, ints)) in
    omega (arith, ints)

-- there are at least 59 latitude zones
pub lat_zones_at-least : (parity : Parity) → 59 ≤ lat_zones parity
lat_zones_at-least Even = omega arith
lat_zones_at-least Odd = omega arith

-- there are at most 60 latitude zones
pub lat_zones_at-most : (parity : Parity) → lat_zones parity ≤ 60
lat_zones_at-most Even = omega arith
lat_zones_at-most Odd = omega arith

-- a latitude index is below 2^30
pub index_small : (w r : ℕ) (parity : Parity) (a : ℤ) → w * r ≡ 360 → IsLatitude w parity a → unsigned_abs a ≤ 707788800
index_small w r parity a e h =
    let wide = (span_bounds w r e).0 in
    let few = lat_zones_at-most parity in
    let product = unsigned_abs-mul (pos w) a in
    let more : 1 * unsigned_abs a ≤ w * unsigned_abs a = mul-le-mul_right (unsigned_abs a) wide in
    omega arith
