-- The points of worked positions on the ground, in numbers.
use Rattle.std.proofs.Common.{◌<◌, ℕ, pos, neg_ℤ, arith, refl, sym, subst}
use Rattle.std.proofs.lemmas.Int.{ints}
use Rattle.sq_angle.specs.Fraction.{Fraction, whole}
use Rattle.sq_angle.specs.declared.position.Position.{Position}
use Rattle.sq_angle.proofs.Congruence.{congruent_refl}
use Rattle.sq_zones.specs.Zones.{zone_limits, zones_at}
use Rattle.sq_zones.specs.declared.parity.Parity.TheVariants.{Even, Odd}
use Rattle.sq_cpr.specs.Span.{ground}
use Rattle.sq_cpr.specs.Close.{AreClosePoints, HaveOneCount, IsClose}
use Rattle.sq_cpr.specs.Grid.{IsGridPoint, Point, circle, latitude, point_at}
use Rattle.sq_cpr.specs.Near.{IsStrictlyNearPoint, IsStrictlyNearPosition, angle_at}
use Rattle.sq_cpr.specs.Rounds.{PositionRoundsTo}
use Rattle.sq_cpr.specs.Slow.{DifferByLess, IsPointWithin}
use Rattle.sq_message.specs.Places.{IsAt}
use Rattle.sq_message.proofs.WorkedPoints.{of_position, parts, rounding}

-- n/of degrees west
abbrev pub west : ℕ → ℕ → Fraction
west n of = record { num = neg_ℤ (pos n); den = of }

-- the points of the worked pair, and those 180 degrees further
abbrev pub even_at : ℕ → Point
even_at index = point_at Even (pos 4572057) 36 index

abbrev pub odd_at : ℕ → Point
odd_at index = point_at Odd (pos 4495647) 35 index

abbrev pub even_point : Point
even_point = even_at 248013

abbrev pub odd_point : Point
odd_point = odd_at 241341

abbrev pub even_beyond : Point
even_beyond = even_at 9685197

abbrev pub odd_beyond : Point
odd_beyond = odd_at 9416381

-- ---- the points to which the positions round

even_is_point : (index : ℕ) → index < circle 36 4 → IsGridPoint ground (even_at index)
unfolding zones_at zone_limits
even_is_point index small = record { north_south = omega (arith, ints); zones = refl; east_west = small }

odd_is_point : (index : ℕ) → index < circle 35 4 → IsGridPoint ground (odd_at index)
unfolding zones_at zone_limits
odd_is_point index small = record { north_south = omega (arith, ints); zones = refl; east_west = small }

pub even_position_rounds : (x : Position) → IsAt (parts 523230400 10000000) (parts 47304726 10000000) x
    → PositionRoundsTo ground x even_point
even_position_rounds x at =
    rounding ground even_point _ _ (pos 248013) x at (even_is_point 248013 (omega arith))
    (record { from = omega (arith, ints); below = omega (arith, ints) })
    (record { from = omega (arith, ints); below = omega (arith, ints) }) (congruent_refl (circle 36 4) (pos 248013))

pub odd_position_rounds : (x : Position) → IsAt (parts 523206071 10000000) (parts 47347347 10000000) x
    → PositionRoundsTo ground x odd_point
odd_position_rounds x at =
    rounding ground odd_point _ _ (pos 241341) x at (odd_is_point 241341 (omega arith))
    (record { from = omega (arith, ints); below = omega (arith, ints) })
    (record { from = omega (arith, ints); below = omega (arith, ints) }) (congruent_refl (circle 35 4) (pos 241341))

pub even_beyond_position_rounds : (x : Position) → IsAt (parts 523230400 10000000) (west 1752695274 10000000) x
    → PositionRoundsTo ground x even_beyond
even_beyond_position_rounds x at =
    rounding ground even_beyond _ _ (neg_ℤ (pos 9189171)) x at (even_is_point 9685197 (omega arith))
    (record { from = omega (arith, ints); below = omega (arith, ints) })
    (record { from = omega (arith, ints); below = omega (arith, ints) })
    (record { times = neg_ℤ (pos 1); apart = refl })

pub odd_beyond_position_rounds : (x : Position) → IsAt (parts 523206071 10000000) (west 1752652653 10000000) x
    → PositionRoundsTo ground x odd_beyond
odd_beyond_position_rounds x at =
    rounding ground odd_beyond _ _ (neg_ℤ (pos 8933699)) x at (odd_is_point 9416381 (omega arith))
    (record { from = omega (arith, ints); below = omega (arith, ints) })
    (record { from = omega (arith, ints); below = omega (arith, ints) })
    (record { times = neg_ℤ (pos 1); apart = refl })

-- ---- near the reference, and at the sites

odd_is_near : IsStrictlyNearPoint ground (parts 51990 1000) (parts 4375 1000) odd_point
odd_is_near = record {
  north_south = record { above = omega (arith, ints); below = omega (arith, ints) };
  east_west = (
    pos 241341,
    congruent_refl (circle 35 4) (pos 241341),
    record { above = omega (arith, ints); below = omega (arith, ints) },
  );
}

pub reference_is_near : (x : Position) → IsAt (parts 51990 1000) (parts 4375 1000) x
    → IsStrictlyNearPosition ground x odd_point
reference_is_near x at = of_position (λ f g. IsStrictlyNearPoint ground f g odd_point) _ _ x at odd_is_near

-- a point less than 45 degrees from these coordinates is less than 45 degrees from a position with them
at_site : (p : Point) (lat lon : Fraction) (x : Position) → IsAt lat lon x
    → DifferByLess (whole 45) (latitude ground p) lat
    → DifferByLess (whole 45) (angle_at 90 p.zones (pos p.lon_index)) lon → IsPointWithin 45 ground p x
at_site p lat lon x at north east = record {
  latitudes = subst (DifferByLess (whole 45) (latitude ground p)) (sym at.lat) north;
  longitudes = (
    pos p.lon_index,
    congruent_refl (circle p.zones 4) (pos p.lon_index),
    subst (DifferByLess (whole 45) (angle_at 90 p.zones (pos p.lon_index))) (sym at.lon) east,
  );
}

module _ (x : Position) where
  pub even_at_site : IsAt (parts 51990 1000) (parts 4375 1000) x → IsPointWithin 45 ground even_point x
  even_at_site at =
      at_site even_point _ _ x at (record { above = omega (arith, ints); below = omega (arith, ints) })
      (record { above = omega (arith, ints); below = omega (arith, ints) })

  pub odd_at_site : IsAt (parts 51990 1000) (parts 4375 1000) x → IsPointWithin 45 ground odd_point x
  odd_at_site at =
      at_site odd_point _ _ x at (record { above = omega (arith, ints); below = omega (arith, ints) })
      (record { above = omega (arith, ints); below = omega (arith, ints) })

  pub even_beyond_at_site : IsAt (parts 51990 1000) (parts 179375 1000) x → IsPointWithin 45 ground even_beyond x
  even_beyond_at_site at =
      at_site even_beyond _ _ x at (record { above = omega (arith, ints); below = omega (arith, ints) })
      (record { above = omega (arith, ints); below = omega (arith, ints) })

  pub odd_beyond_at_site : IsAt (parts 51990 1000) (parts 179375 1000) x → IsPointWithin 45 ground odd_beyond x
  odd_beyond_at_site at =
      at_site odd_beyond _ _ x at (record { above = omega (arith, ints); below = omega (arith, ints) })
      (record { above = omega (arith, ints); below = omega (arith, ints) })

-- ---- close points

one_count : HaveOneCount 90 (pos 4572057) (pos 4495647)
unfolding zones_at zone_limits
one_count = refl

close : (m n : ℕ) → IsClose 90 36 35 (pos m) (pos n) → AreClosePoints ground (even_at m) (odd_at n)
close m n longitudes = record {
  even = refl;
  odd = refl;
  latitudes = record { turns = pos 0; from = omega (arith, ints); below = omega (arith, ints) };
  counts = one_count;
  longitudes = longitudes;
}

pub points_are_close : AreClosePoints ground even_point odd_point
points_are_close =
    close 248013 241341 (record { turns = pos 0; from = omega (arith, ints); below = omega (arith, ints) })

pub points_beyond_are_close : AreClosePoints ground even_beyond odd_beyond
points_beyond_are_close =
    close 9685197 9416381 (record { turns = pos 0; from = omega (arith, ints); below = omega (arith, ints) })
