-- Exact conditions for the premises on true positions, so that no premise can change unnoticed.
use Rattle.std.specs.Prelude.{◌≡◌, ◌≢◌, ◌↔◌, ◌⊎◌, ◌<◌, ◌≤◌, ◌+◌, ◌-◌, ◌*◌, ℕ, max, min, ℤ, pos, neg_ℤ}
use Rattle.std.specs.Prelude.{Result, Ok, Err}
use Rattle.sq_angle.specs.Angle.{degrees as degrees_of}
use Rattle.sq_angle.specs.Fraction.{Fraction, ◌≺◌, ◌≃◌, minus, plus, whole}
use Rattle.sq_angle.specs.Position.{lat_of, lon_of}
use Rattle.sq_angle.specs.declared.position.Position.{Position}
use Rattle.sq_zones.specs.Zones.{parity_index, zones_at}
use Rattle.sq_zones.specs.declared.parity.Parity.{Parity}
use Rattle.sq_zones.specs.declared.parity.Parity.TheVariants.{Even, Odd}
use Rattle.sq_cpr.specs.declared.faults.PairFault.{PairFault}
use Rattle.sq_cpr.specs.declared.faults.PairFault.TheVariants.{ZoneCounts}
use Rattle.sq_cpr.specs.Span.{Span, air, ground}
use Rattle.sq_cpr.specs.DecodeLaws.{TameAnswer}
use Rattle.sq_cpr.specs.Grid.{IsGridPoint, IsLatitude, Point, latitude, lat_zones, longitude, codes_of_zone}
use Rattle.sq_cpr.specs.Near.{IsStrictlyNear, IsStrictlyNearLongitude, IsStrictlyNearPoint, half_zone}
use Rattle.sq_cpr.specs.Close.{AreCloseLatitudes, AreClosePoints, AreTamePoints, HaveOneCount, IsClose, count_at}
use Rattle.sq_cpr.specs.Pair.{HaveTwoCounts, of_parity}
use Rattle.sq_cpr.specs.Slow.{AreSlow, AreSlowForFollowing, AreWithin, DifferByLess, DifferByLessAround, IsPointWithin}
use Rattle.sq_cpr.specs.Slow.{following_limit, slow_limit}
use Rattle.sq_cpr.specs.Zones.{turned}

-- angles differ by less than a limit exactly if each lies below the other plus the limit
abbrev pub DifferExactly : Type 0
DifferExactly = (limit x y : Fraction) → DifferByLess limit x y ↔ ((x ≺ plus y limit) × (y ≺ plus x limit))

-- angles differ by less than a limit modulo 360 degrees exactly if they do after some whole turns are added to the
-- first
abbrev pub DifferAroundExactly : Type 0
DifferAroundExactly =
    (limit x y : Fraction) → DifferByLessAround limit x y ↔ ((turns : ℤ) × DifferByLess limit (turned x turns) y)

-- adding whole turns to either angle keeps a difference modulo 360 degrees below its limit
pub record TurnsChangeNothing : Type 0 where
  pub first : (limit x y : Fraction) (turns : ℤ) → DifferByLessAround limit x y
      → DifferByLessAround limit (turned x turns) y
  pub second : (limit x y : Fraction) (turns : ℤ) → DifferByLessAround limit x y
      → DifferByLessAround limit x (turned y turns)

-- a number of hundredths of a degree
abbrev pub hundredths : ℤ → Fraction
hundredths n = record { num = n; den = 100 }

-- Longitudes on either side of 180 degrees. With 59 and 58 zones, 179.99 and -179.99 are slow, and 179 and -179 are
-- slow for following. 159 and -159 are less than 44 degrees apart; 158 and -158 are not.
pub record Across180Degrees : Type 0 where
  pub slow : DifferByLessAround (slow_limit air.degrees 59 58) (hundredths (pos 17999)) (hundredths (neg_ℤ (pos 17999)))
  pub following : DifferByLessAround (following_limit air.degrees 59 58) (hundredths (pos 17900))
      (hundredths (neg_ℤ (pos 17900)))
  pub within : DifferByLessAround (whole 44) (hundredths (pos 15900)) (hundredths (neg_ℤ (pos 15900)))
  pub not_within : ¬ DifferByLessAround (whole 44) (hundredths (pos 15800)) (hundredths (neg_ℤ (pos 15800)))

-- a number of ten-thousandths of a degree
abbrev pub ten_thousandths : ℕ → Fraction
ten_thousandths n = record { num = pos n; den = 10000 }

-- Differences next to the limits, for points with 59 and 58 zones. 0.0525 degrees are slow and 0.0526 are not, though
-- they are less than W / (2 * 59 * 58). 3.0508 degrees are slow for following and 3.0509 are not.
pub record AtTheLimits : Type 0 where
  pub slow : DifferByLess (slow_limit air.degrees 59 58) (ten_thousandths 525) (whole 0)
  pub not_slow : ¬ DifferByLess (slow_limit air.degrees 59 58) (ten_thousandths 526) (whole 0)
  pub following : DifferByLess (following_limit air.degrees (max 59 58) (min 59 58)) (ten_thousandths 30508) (whole 0)
  pub not_following : ¬ DifferByLess (following_limit air.degrees (max 59 58) (min 59 58)) (ten_thousandths 30509)
      (whole 0)

-- the limits for latitudes, as numbers: in the air, and a quarter of that on the ground
pub record LimitsAsNumbers : Type 0 where
  pub slow_in_air : slow_limit air.degrees 60 59 ≃ record { num = pos 49107; den = 966656 }
  pub following_in_air : following_limit air.degrees 60 59 ≃ record { num = pos 2899923; den = 966656 }
  pub slow_on_ground : slow_limit ground.degrees 60 59 ≃ record { num = pos 49107; den = 3866624 }
  pub following_on_ground : following_limit ground.degrees 60 59 ≃ record { num = pos 2899923; den = 3866624 }

-- the limits for all numbers of zones: W / (2 n m) - W / (m 2^17), and W / (2 n) - W / (m 2^17)
abbrev pub LimitsInWords : Type 0
LimitsInWords = (w n m : ℕ) →
    (slow_limit w n m ≡ minus (record { num = pos w; den = 2 * n * m })
    (record { num = pos w; den = m * codes_of_zone }))
    × (following_limit w n m ≡ minus (record { num = pos w; den = 2 * n })
    (record { num = pos w; den = m * codes_of_zone }))

-- Positions are slow exactly if their latitudes differ by less than the limit. If their points have one zone count of
-- 2 or more, the longitudes have to differ by less than theirs as well.
abbrev pub SlowExactly : Span → Type 0
SlowExactly span =
    (a b : Point) (x y : Position) → AreSlow span a b x y
    ↔ (DifferByLess (slow_limit span.degrees 60 59) (degrees_of (lat_of x)) (degrees_of (lat_of y))
    × (HaveOneCount span.degrees a.lat_index b.lat_index → 2 ≤ count_at span.degrees Even a.lat_index
    → DifferByLessAround (slow_limit span.degrees a.zones b.zones) (degrees_of (lon_of x)) (degrees_of (lon_of y))))

-- Positions are slow for following exactly if both coordinates differ by less than their limits. The limit for
-- longitudes is half a zone of the larger number of zones, less a step of the smaller.
abbrev pub FollowingExactly : Span → Type 0
FollowingExactly span =
    (a b : Point) (x y : Position) → AreSlowForFollowing span a b x y
    ↔ (DifferByLess (following_limit span.degrees 60 59) (degrees_of (lat_of x)) (degrees_of (lat_of y))
    × DifferByLessAround (following_limit span.degrees (max a.zones b.zones) (min a.zones b.zones))
    (degrees_of (lon_of x)) (degrees_of (lon_of y)))

-- positions lie within `limit` degrees exactly if both coordinates differ by less
abbrev pub WithinExactly : Type 0
WithinExactly =
    (limit : ℕ) (x y : Position) → AreWithin limit x y
    ↔ (DifferByLess (whole limit) (degrees_of (lat_of x)) (degrees_of (lat_of y))
    × DifferByLessAround (whole limit) (degrees_of (lon_of x)) (degrees_of (lon_of y)))

-- a point lies within `limit` degrees of a position exactly if both coordinates differ by less
abbrev pub PointWithinExactly : Span → Type 0
PointWithinExactly span =
    (limit : ℕ) (point : Point) (x : Position) → IsPointWithin limit span point x
    ↔ (DifferByLess (whole limit) (latitude span point) (degrees_of (lat_of x))
    × DifferByLessAround (whole limit) (longitude span point) (degrees_of (lon_of x)))

-- points are close exactly if they are tame and have one zone count
abbrev pub CloseExactly : Span → Type 0
CloseExactly span = (a b : Point) → AreClosePoints span a b
    ↔ (AreTamePoints span a b × HaveOneCount span.degrees a.lat_index b.lat_index)

-- a point is strictly near (lat, lon) exactly if both coordinates differ by less than half a zone, the longitudes
-- modulo 360 degrees
abbrev pub StrictlyNearExactly : Span → Type 0
StrictlyNearExactly span =
    (lat lon : Fraction) (point : Point) → IsStrictlyNearPoint span lat lon point
    ↔ (IsStrictlyNear (half_zone span.degrees (lat_zones point.parity)) lat (latitude span point)
    × IsStrictlyNearLongitude span point.zones lon point.lon_index)

-- x is strictly near r exactly if it lies strictly between both ends of the window
abbrev pub WindowExactly : Type 0
WindowExactly = (h r x : Fraction) → IsStrictlyNear h r x ↔ ((minus r h ≺ x) × (x ≺ plus r h))

-- Points are tame exactly if the first is even, the second is odd, and their latitudes are close. If the latitudes
-- have one zone count, the longitudes have to be close as well.
abbrev pub TameExactly : Span → Type 0
TameExactly span =
    (a b : Point) → AreTamePoints span a b
    ↔ ((a.parity ≡ Even) × (b.parity ≡ Odd) × AreCloseLatitudes span.degrees a.lat_index b.lat_index
    × (HaveOneCount span.degrees a.lat_index b.lat_index → IsClose span.degrees a.zones b.zones (pos a.lon_index)
    (pos b.lon_index)))

-- A point is on the grid exactly if its latitude is within 90 degrees, with the zones there, and its longitude index
-- is on the circle. The zones are the zone count, one less for odd, and at least one. The codes of a zone are spelled
-- as a number, so their name cannot come to mean another.
abbrev pub GridPointExactly : Span → Type 0
GridPointExactly span =
    (point : Point) → IsGridPoint span point
    ↔ (IsLatitude span.degrees point.parity point.lat_index
    × (point.zones ≡ max (zones_at (latitude span point) - parity_index point.parity) 1)
    × (point.lon_index < point.zones * 131072 * span.repeats))

-- an even grid has 60 zones of latitude, and an odd one 59
abbrev pub ZonesAsNumbers : Type 0
ZonesAsNumbers = (lat_zones Even ≡ 60) × (lat_zones Odd ≡ 59)

-- latitudes have two zone counts exactly if both lie in -90 to 90 degrees, these are their counts, and the counts
-- differ
abbrev pub TwoCountsExactly : Span → Type 0
TwoCountsExactly span =
    (p q : ℤ) (even odd : ℕ) → HaveTwoCounts span.degrees p q even odd
    ↔ (IsLatitude span.degrees Even p × IsLatitude span.degrees Odd q × (count_at span.degrees Even p ≡ even)
    × (count_at span.degrees Odd q ≡ odd) × (even ≢ odd))

-- the results for tame points are exactly the newest, and the two zone counts of their latitudes if these differ
abbrev pub TameAnswerExactly : Span → Type 0
TameAnswerExactly span =
    (newest : Parity) (a b : Point) (answer : Result Point PairFault) → TameAnswer span newest a b answer
    ↔ ((answer ≡ Ok (of_parity newest a b))
    ⊎ ((even odd : ℕ) × HaveTwoCounts span.degrees a.lat_index b.lat_index even odd
    × (answer ≡ Err (ZoneCounts even odd))))

-- a number of thousandths of a degree
abbrev pub thousandths : ℕ → Fraction
thousandths n = record { num = pos n; den = 1000 }

-- an even airborne point at 52.2572 degrees north and 3.9194 east
abbrev pub even_point : Point
even_point = record { parity = Even; lat_index = pos (8 * 131072 + 93000); zones = 36; lon_index = 51372 }

-- an odd airborne point at 52.2658 degrees north and 3.9389 east
abbrev pub odd_point : Point
odd_point = record { parity = Odd; lat_index = pos (8 * 131072 + 74158); zones = 35; lon_index = 50194 }

-- References of three decimals, which are no points of a grid. Both points are strictly near 52.258 3.918, and they
-- are close to each other. The even one is not strictly near 55.258 3.918.
pub record NearThreeDecimals : Type 0 where
  pub even : IsStrictlyNearPoint air (thousandths 52258) (thousandths 3918) even_point
  pub odd : IsStrictlyNearPoint air (thousandths 52258) (thousandths 3918) odd_point
  pub not_near : ¬ IsStrictlyNearPoint air (thousandths 55258) (thousandths 3918) even_point
  pub latitudes : AreCloseLatitudes air.degrees even_point.lat_index odd_point.lat_index
  pub longitudes : IsClose air.degrees 36 35 (pos even_point.lon_index) (pos odd_point.lon_index)
