-- True positions that are near enough to one another for the points to which they round to be decoded.
use Rattle.std.specs.Prelude.{ℕ, ◌≤◌, max, min, ℤ}
use Rattle.sq_angle.specs.Angle.{degrees as degrees_of}
use Rattle.sq_angle.specs.Fraction.{Fraction, ◌≺◌, minus, opposite, whole}
use Rattle.sq_angle.specs.Position.{lat_of, lon_of}
use Rattle.sq_angle.specs.declared.position.Position.{Position}
use Rattle.sq_zones.specs.declared.parity.Parity.TheVariants.{Even, Odd}
use Rattle.sq_cpr.specs.Span.{Span}
use Rattle.sq_cpr.specs.Grid.{Point, step, lat_zones, circle, latitude}
use Rattle.sq_cpr.specs.Near.{half_zone, angle_at, OnSomeTurn}
use Rattle.sq_cpr.specs.Close.{difference, closeness, count_at, HaveOneCount}

-- -limit < d < limit
pub record IsSmallerThan (limit d : Fraction) : Type 0 where
  pub above : opposite limit ≺ d
  pub below : d ≺ limit

-- x and y differ by less than the limit
abbrev pub DifferByLess : (limit x y : Fraction) → Type 0
DifferByLess limit x y = IsSmallerThan limit (minus x y)

-- x and y differ by less than the limit, modulo 360 degrees
abbrev pub DifferByLessAround : (limit x y : Fraction) → Type 0
DifferByLessAround limit x y = (turns : ℤ) × IsSmallerThan limit (difference 360 x y turns)

-- the limit for slow positions: the closeness of the angles to which they round, less a step of the odd grid
abbrev pub slow_limit : (degrees even_zones odd_zones : ℕ) → Fraction
slow_limit degrees even_zones odd_zones = minus (closeness degrees even_zones odd_zones) (step degrees odd_zones)

-- The true positions x and y, which round to a and b, are slow: their latitudes differ by less than the limit. If the
-- points have one zone count of two or more, the longitudes have to differ by less than theirs as well.
pub record AreSlow (span : Span) (a b : Point) (x y : Position) : Type 0 where
  pub latitudes : DifferByLess (slow_limit span.degrees (lat_zones Even) (lat_zones Odd)) (degrees_of (lat_of x))
      (degrees_of (lat_of y))
  pub longitudes : HaveOneCount span.degrees a.lat_index b.lat_index → 2 ≤ count_at span.degrees Even a.lat_index
      → DifferByLessAround (slow_limit span.degrees a.zones b.zones) (degrees_of (lon_of x)) (degrees_of (lon_of y))

-- the limit for positions that are slow for following: half a zone of the larger number of zones, less a step of the
-- smaller
abbrev pub following_limit : (degrees larger smaller : ℕ) → Fraction
following_limit degrees larger smaller = minus (half_zone degrees larger) (step degrees smaller)

-- The true positions x and y, which round to a and b, are slow for following: both coordinates differ by less than
-- their limits. The limit for latitudes is by the even grid's zones and the odd grid's step, for any parities.
pub record AreSlowForFollowing (span : Span) (a b : Point) (x y : Position) : Type 0 where
  pub latitudes : DifferByLess (following_limit span.degrees (lat_zones Even) (lat_zones Odd)) (degrees_of (lat_of x))
      (degrees_of (lat_of y))
  pub longitudes : DifferByLessAround (following_limit span.degrees (max a.zones b.zones) (min a.zones b.zones))
      (degrees_of (lon_of x)) (degrees_of (lon_of y))

-- the positions differ by less than `limit` degrees in both coordinates, the longitudes modulo 360
pub record AreWithin (limit : ℕ) (x y : Position) : Type 0 where
  pub latitudes : DifferByLess (whole limit) (degrees_of (lat_of x)) (degrees_of (lat_of y))
  pub longitudes : DifferByLessAround (whole limit) (degrees_of (lon_of x)) (degrees_of (lon_of y))

-- the point differs from the position by less than `limit` degrees in both coordinates, the longitudes modulo 360
pub record IsPointWithin (limit : ℕ) (span : Span) (point : Point) (x : Position) : Type 0 where
  pub latitudes : DifferByLess (whole limit) (latitude span point) (degrees_of (lat_of x))
  pub longitudes : OnSomeTurn (circle point.zones span.repeats) point.lon_index
      (λ turned. DifferByLess (whole limit) (angle_at span.degrees point.zones turned) (degrees_of (lon_of x)))
