-- The zone count depends only on the magnitude of a latitude, and stays equal or decreases as it grows.
use Rattle.std.proofs.Common.{IsTrue, ◌≡◌, ℕ, ◌+◌, ◌*◌, ◌^◌, ◌<◌, ◌≤◌, Bool, true, false, cond, List, [], ◌∷◌, count_by}
use Rattle.std.proofs.Common.{nat_le, unsigned_abs, arith, leb-true, le-leb, le_of_mul-le-mul_right, mul-le-mul_right}
use Rattle.std.proofs.Common.{refl}
use Rattle.std.proofs.lemmas.Int.{ints}
use Rattle.std.proofs.lemmas.List.Sums.{sum_by-cons}
use Rattle.sq_angle.specs.Fraction.{◌≼◌, magnitude}
use Rattle.sq_zones.specs.Zones.{zone_limits, zones_at, is_at_most, limit_at}
use Rattle.sq_zones.specs.Laws.{LimitsAsFractions, ZonesByValue, FewerTowardsPoles}

-- a limit that is at least the greater latitude is at least the smaller one
passes_less : (m xd n yd limit : ℕ) → 0 < yd → m * yd ≤ n * xd → n * 10 ^ 8 ≤ limit * yd → m * 10 ^ 8 ≤ limit * xd
passes_less m xd n yd limit p h k =
    let first : m * yd * 100000000 ≤ n * xd * 100000000 = mul-le-mul_right 100000000 h in
    let second : n * 100000000 * xd ≤ limit * yd * xd = mul-le-mul_right xd k in
    let both : m * 100000000 * yd ≤ limit * xd * yd = omega arith in
    le_of_mul-le-mul_right both p

-- the number of limits that are at least a greater latitude is at most that for a smaller latitude
count_less : (m xd n yd : ℕ) (limits : List ℕ) → 0 < yd → m * yd ≤ n * xd →
    count_by (λ limit. nat_le (n * 10 ^ 8) (limit * yd)) limits ≤ count_by
    (λ limit. nat_le (m * 10 ^ 8) (limit * xd)) limits
count_less m xd n yd [] p h = omega arith
count_less m xd n yd (limit ∷ limits) p h =
    let rest = count_less m xd n yd limits p h in
    let a = sum_by-cons (λ l. cond (nat_le (n * 10 ^ 8) (l * yd)) 1 0) limit limits in
    let b = sum_by-cons (λ l. cond (nat_le (m * 10 ^ 8) (l * xd)) 1 0) limit limits in
    by (nat_le (n * 10 ^ 8) (limit * yd)) (nat_le (m * 10 ^ 8) (limit * xd))
    (λ e. le-leb (m * 10 ^ 8) (limit * xd)
    (passes_less m xd n yd limit p h (leb-true (n * 10 ^ 8) (limit * yd) e))) rest a b
  where
    by : (s t : Bool) → (s ≡ true → t ≡ true) → {j k j' k' : ℕ} → j ≤ k → j' ≡ cond s 1 0 + j → k' ≡ cond t 1 0 + k
        → j' ≤ k'
    by true true f l e g = omega arith
    by true false f l e g = absurd (cc (f refl))
    by false true f l e g = omega arith
    by false false f l e g = omega arith

-- the zone count stays equal or decreases with the distance from the equator
pub fewer_towards_poles : FewerTowardsPoles
unfolding zones_at
fewer_towards_poles x y some_x some_y h =
    let products : unsigned_abs x.num * y.den ≤ unsigned_abs y.num * x.den = omega (arith, ints) in
    omega (arith, count_less (unsigned_abs x.num) x.den (unsigned_abs y.num) y.den zone_limits some_y products)

-- latitudes of the same magnitude have the same zone count
pub zones_by_value : ZonesByValue
zones_by_value x y some_x some_y e =
    let there : magnitude x ≼ magnitude y = omega (arith, ints) in
    let back : magnitude y ≼ magnitude x = omega (arith, ints) in
    omega (arith, fewer_towards_poles x y some_x some_y there, fewer_towards_poles y x some_y some_x back)

-- the test against a limit compares fractions
pub limits_as_fractions : LimitsAsFractions
limits_as_fractions lat limit =
    let m = unsigned_abs lat.num * 10 ^ 8 in
    let n = limit * lat.den in (
      λ (h : IsTrue (is_at_most lat limit)). let le = leb-true m n h in omega (arith, ints),
      λ (h : magnitude lat ≼ limit_at limit). le-leb m n (omega (arith, ints)),
    )
