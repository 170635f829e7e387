-- A zone count is from 1 to 59.
use Rattle.std.proofs.Common.{◌*◌, ◌^◌, ◌≤◌, nat_le, unsigned_abs, arith}
use Rattle.std.proofs.lemmas.List.Sums.{count_by-le-length}
use Rattle.sq_angle.specs.Fraction.{Fraction}
use Rattle.sq_zones.specs.declared.parity.Parity.{Parity}
use Rattle.sq_zones.specs.declared.parity.Parity.TheVariants.{Even, Odd}
use Rattle.sq_zones.specs.Zones.{zone_limits, zones_at, lon_zones_at}

-- there is at least one zone
pub zones_at-least : (lat : Fraction) → 1 ≤ zones_at lat
unfolding zones_at
zones_at-least lat = omega arith

-- there are at most 59 zones
pub zones_at-most : (lat : Fraction) → zones_at lat ≤ 59
unfolding zones_at zone_limits
zones_at-most lat = omega (
  arith,
  count_by-le-length (λ limit. nat_le (unsigned_abs lat.num * 10 ^ 8) (limit * lat.den)) zone_limits,
)

-- there is at least one longitude zone on either grid
pub lon_zones_at-least : (parity : Parity) (lat : Fraction) → 1 ≤ lon_zones_at parity lat
lon_zones_at-least parity lat = omega arith

-- there are at most 59 longitude zones on either grid
pub lon_zones_at-most : (parity : Parity) (lat : Fraction) → lon_zones_at parity lat ≤ 59
lon_zones_at-most Even lat = omega (arith, zones_at-most lat)
lon_zones_at-most Odd lat = omega (arith, zones_at-most lat)
