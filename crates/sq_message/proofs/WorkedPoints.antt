-- The points of worked positions in the air, in numbers, and lemmas that the surface positions share with them.
use Rattle.std.proofs.Common.{ℕ, ℤ, pos, arith, refl, sym, subst}
use Rattle.std.proofs.lemmas.Int.{ints}
use Rattle.sq_angle.specs.Fraction.{Fraction}
use Rattle.sq_angle.specs.Nearest.{IsNearest}
use Rattle.sq_angle.specs.Whole.{IsCongruent}
use Rattle.sq_angle.specs.Angle.{degrees}
use Rattle.sq_angle.specs.Position.{lat_of, lon_of}
use Rattle.sq_angle.specs.declared.position.Position.{Position}
use Rattle.sq_angle.proofs.Congruence.{congruent_refl}
use Rattle.sq_zones.specs.Zones.{zone_limits, zones_at}
use Rattle.sq_cpr.specs.Span.{Span, air}
use Rattle.sq_cpr.specs.Close.{AreClosePoints, HaveOneCount}
use Rattle.sq_cpr.specs.Exactly.{even_point, odd_point}
use Rattle.sq_cpr.specs.Grid.{IsGridPoint, Point, circle, lat_zones, step}
use Rattle.sq_cpr.specs.Near.{IsStrictlyNearPoint, IsStrictlyNearPosition}
use Rattle.sq_cpr.specs.Rounds.{RoundsTo, PositionRoundsTo}
use Rattle.sq_cpr.proofs.Distances.Exact.{near_three_decimals}
use Rattle.sq_message.specs.Places.{IsAt}

-- n/of degrees
abbrev pub parts : ℕ → ℕ → Fraction
parts n of = record { num = pos n; den = of }

-- a property of these coordinates holds for a position with them
pub of_position : (P : Fraction → Fraction → Type 0) (lat lon : Fraction) (x : Position) → IsAt lat lon x → P lat lon
    → P (degrees (lat_of x)) (degrees (lon_of x))
of_position P lat lon x at p =
    subst (λ f. P f (degrees (lon_of x))) (sym at.lat) (subst (λ f. P lat f) (sym at.lon) p)

-- a position rounds to a point with its nearest latitude index and, modulo turns, its nearest longitude index
pub rounding : (span : Span) (p : Point) (lat lon : Fraction) (index : ℤ) (x : Position) → IsAt lat lon x
    → IsGridPoint span p → IsNearest lat (step span.degrees (lat_zones p.parity)) p.lat_index
    → IsNearest lon (step span.degrees p.zones) index
    → IsCongruent (circle p.zones span.repeats) index (pos p.lon_index) → PositionRoundsTo span x p
rounding span p lat lon index x at of_grid north east turned =
    of_position (λ f g. RoundsTo span f g p) lat lon x at
    (record { of_grid = of_grid; north_south = north; east_west = (index, east, turned) })

even_is_point : IsGridPoint air even_point
unfolding zones_at zone_limits
even_is_point = record { north_south = omega (arith, ints); zones = refl; east_west = omega arith }

odd_is_point : IsGridPoint air odd_point
unfolding zones_at zone_limits
odd_is_point = record { north_south = omega (arith, ints); zones = refl; east_west = omega arith }

pub even_position_rounds : (x : Position) → IsAt (parts 522572021 10000000) (parts 39193726 10000000) x
    → PositionRoundsTo air x even_point
even_position_rounds x at =
    rounding air even_point _ _ (pos 51372) x at even_is_point
    (record { from = omega (arith, ints); below = omega (arith, ints) })
    (record { from = omega (arith, ints); below = omega (arith, ints) }) (congruent_refl (circle 36 1) (pos 51372))

pub odd_position_rounds : (x : Position) → IsAt (parts 5226578 100000) (parts 393891 100000) x
    → PositionRoundsTo air x odd_point
odd_position_rounds x at =
    rounding air odd_point _ _ (pos 50194) x at odd_is_point
    (record { from = omega (arith, ints); below = omega (arith, ints) })
    (record { from = omega (arith, ints); below = omega (arith, ints) }) (congruent_refl (circle 35 1) (pos 50194))

pub reference_is_near : (x : Position) → IsAt (parts 52258 1000) (parts 3918 1000) x
    → IsStrictlyNearPosition air x even_point
reference_is_near x at =
    of_position (λ f g. IsStrictlyNearPoint air f g even_point) _ _ x at near_three_decimals.even

one_count : HaveOneCount 360 even_point.lat_index odd_point.lat_index
unfolding zones_at zone_limits
one_count = refl

pub points_are_close : AreClosePoints air even_point odd_point
points_are_close = record {
  even = refl;
  odd = refl;
  latitudes = near_three_decimals.latitudes;
  counts = one_count;
  longitudes = near_three_decimals.longitudes;
}
