-- How far angles lie apart, and by how many miles.
use Rattle.std.proofs.Common.{◌≡◌, ◌≤◌, ◌<◌, ◌+◌, ◌-◌, ◌*◌, ◌^◌, ◌∙◌, ℕ, Bool, true, false, ◌&&◌, ◌||◌, min, ap, ap₂, arith, refl, sym}
use Rattle.std.specs.Prelude.{nat_le, nat_lt}
use Rattle.std.proofs.lemmas.Bool.Decides.{nat_tests}
use Rattle.std.proofs.lemmas.Int.{ints}
use Rattle.std.proofs.lemmas.Nat.{mul-le}
use Rattle.std.proofs.Math.Nat.{min-le_left}
use Rattle.sq_angle.proofs.Sizes.{scaled_size}
use Rattle.sq_angle.specs.Angle.{degrees}
use Rattle.sq_angle.specs.Position.{lat_of, lon_of}
use Rattle.sq_angle.specs.declared.angle.Angle.{Angle}
use Rattle.sq_angle.specs.declared.position.Position.{Position}
use Rattle.sq_zones.specs.Zones.{zones_at}
use Rattle.sq_zones.proofs.ZoneBounds.{zones_at-most}
use Rattle.sq_track.specs.Watch.{are_apart, fewer_zones, gap, is_longer, parts, round_gap}
use Rattle.sq_track.specs.declared.watch.Miles.{Miles}

-- two angles lie at most 720 degrees apart
pub gap_small : (x y : Angle) → gap (degrees x) (degrees y) ≤ 720 * parts (degrees x) (degrees y)
gap_small x y =
    let a = scaled_size y.den y.den (360 * x.den) x.num (omega arith) x.in_range.within in
    let b = scaled_size x.den x.den (360 * y.den) y.num (omega arith) y.in_range.within in
    omega (arith, ints, a, b)

-- No two positions are as far apart as 2^40 / 3600000 miles.
capped : (m a way parts : ℕ) → a ≤ 60 → way ≤ 720 * parts
    → is_longer (record { num = min m (2 ^ 40); den = 3600000 }) a way parts
    ≡ is_longer (record { num = m; den = 3600000 }) a way parts
capped m a way parts few small = by (nat_le m (2 ^ 40)) refl
  where
    most : a * way * 3600000 ≤ 155520000000 * parts
    most = let h = mul-le a way 60 (720 * parts) few small in omega (arith, h)

    by : (b : Bool) → nat_le m (2 ^ 40) ≡ b → nat_lt (min m (2 ^ 40) * parts) (a * way * 3600000)
        ≡ nat_lt (m * parts) (a * way * 3600000)
    by true is =
        let same : min m (2 ^ 40) ≡ m = grind (arith, nat_tests, is) in
        ap (λ n. nat_lt (n * parts) (a * way * 3600000)) same
    by false is =
        let more : 2 ^ 40 ≤ m = grind (arith, nat_tests, is) in
        let same : min m (2 ^ 40) ≡ 2 ^ 40 = grind (arith, nat_tests, is) in
        let h = mul-le (2 ^ 40) parts m parts more (omega arith) in
        ap (λ n. nat_lt (n * parts) (a * way * 3600000)) same
        ∙ grind (arith, nat_tests, most, h)

round_small : (x y : Angle) → round_gap (degrees x) (degrees y) ≤ 720 * parts (degrees x) (degrees y)
round_small x y =
    let small = gap_small x y in
    let way = gap (degrees x) (degrees y) in
    omega (arith, small, min-le_left way (360 * (x.den * y.den) - way))

few_zones : (p q : Position) → fewer_zones (degrees (lat_of p)) (degrees (lat_of q)) ≤ 60
few_zones p q =
    let few = zones_at-most (degrees (lat_of p)) in
    omega (arith, few, min-le_left (zones_at (degrees (lat_of p))) (zones_at (degrees (lat_of q))))

-- so a way may be cut at that
pub apart_capped : (m : ℕ) (p q : Position)
    → are_apart (record { num = min m (2 ^ 40); den = 3600000 }) p q
    ≡ are_apart (record { num = m; den = 3600000 }) p q
apart_capped m p q =
    let lat = lat_of p in
    let lat' = lat_of q in
    let lon = lon_of p in
    let lon' = lon_of q in
    let n = fewer_zones (degrees lat) (degrees lat') in
    ap₂ (λ b c. b || nat_le 2 n && c)
    (capped m 60 (gap (degrees lat) (degrees lat')) (parts (degrees lat) (degrees lat')) (omega arith)
    (gap_small lat lat'))
    (capped m n (round_gap (degrees lon) (degrees lon')) (parts (degrees lon) (degrees lon')) (few_zones p q)
    (round_small lon lon'))
