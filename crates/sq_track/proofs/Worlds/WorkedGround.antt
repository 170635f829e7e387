-- Worked arrivals on the ground: their places, and how far apart they are.
use Rattle.std.proofs.Common.{◌∷◌, [], pos, neg_ℤ, Some, None, arith, refl}
use Rattle.std.proofs.lemmas.Int.{ints}
use Rattle.sq_angle.specs.declared.position.Position.{Position}
use Rattle.sq_zones.specs.Zones.{zone_limits, zones_at}
use Rattle.sq_cpr.specs.Span.{ground}
use Rattle.sq_cpr.specs.Close.{HaveOneCount}
use Rattle.sq_cpr.specs.Grid.{IsGridPoint}
use Rattle.sq_cpr.specs.Rounds.{RoundsTo, PositionRoundsTo}
use Rattle.sq_cpr.specs.Slow.{AreSlow, AreSlowForFollowing, AreWithin}
use Rattle.sq_message.specs.declared.place.Place.TheVariants.{Ground}
use Rattle.sq_message.proofs.WorkedPoints.{of_position}
use Rattle.sq_message.proofs.WorkedGround.{even_beyond_position_rounds, odd_beyond_position_rounds}
use Rattle.sq_message.specs.Places.{IsAt}
use Rattle.sq_track.specs.Tame.{ArePairTogether, AreTogether, IsSlow, IsSlowForFollowing}
use Rattle.sq_track.specs.WorkedArrivals.{parts, west}
use Rattle.sq_track.specs.Worlds.{Arrival, IsTruePlace}
use Rattle.sq_track.specs.WorkedGround.{IsFirst, IsFourth, IsSecond, IsSite, IsThird, TruePlaces, TwoAreSlow}
use Rattle.sq_track.specs.WorkedGround.{first_point, fourth_point, second_point, third_point}
use Rattle.sq_track.proofs.Worlds.ByPairs.{slow_for_following_pair_exactly, slow_pair_exactly}
use Rattle.sq_track.proofs.Worlds.WorkedArrivals.{are_pair, are_together, following_by, slow_by, true_place, within_by}

-- ---- the points

third_is_point : IsGridPoint ground third_point
unfolding zones_at zone_limits
third_is_point = record { north_south = omega (arith, ints); zones = refl; east_west = omega arith }

third_rounds : RoundsTo ground (parts 5232 100) (west 175264 1000) third_point
third_rounds = record {
  of_grid = third_is_point;
  north_south = record { from = omega (arith, ints); below = omega (arith, ints) };
  east_west = (
    neg_ℤ (pos 8933635),
    record { from = omega (arith, ints); below = omega (arith, ints) },
    record { times = neg_ℤ (pos 1); apart = refl },
  );
}

pub third_position_rounds : (x : Position) → IsAt (parts 5232 100) (west 175264 1000) x
    → PositionRoundsTo ground x third_point
third_position_rounds x at =
    of_position (λ f g. RoundsTo ground f g third_point) _ _ x at third_rounds

fourth_is_point : IsGridPoint ground fourth_point
unfolding zones_at zone_limits
fourth_is_point = record { north_south = omega (arith, ints); zones = refl; east_west = omega arith }

fourth_rounds : RoundsTo ground (parts 523194 10000) (west 1752629 10000) fourth_point
fourth_rounds = record {
  of_grid = fourth_is_point;
  north_south = record { from = omega (arith, ints); below = omega (arith, ints) };
  east_west = (
    neg_ℤ (pos 9188824),
    record { from = omega (arith, ints); below = omega (arith, ints) },
    record { times = neg_ℤ (pos 1); apart = refl },
  );
}

pub fourth_position_rounds : (x : Position) → IsAt (parts 523194 10000) (west 1752629 10000) x
    → PositionRoundsTo ground x fourth_point
fourth_position_rounds x at =
    of_position (λ f g. RoundsTo ground f g fourth_point) _ _ x at fourth_rounds

pub one_count : HaveOneCount 90 first_point.lat_index second_point.lat_index
unfolding zones_at zone_limits
one_count = refl

pub last_count : HaveOneCount 90 fourth_point.lat_index second_point.lat_index
unfolding zones_at zone_limits
last_count = refl

-- ---- the arrivals

pub first_place : (a : Arrival) → IsFirst a → IsTruePlace a (Ground first_point)
first_place a h = true_place a h first_point refl (even_beyond_position_rounds a.position h.place)

pub second_place : (b : Arrival) → IsSecond b → IsTruePlace b (Ground second_point)
second_place b h = true_place b h second_point refl (odd_beyond_position_rounds b.position h.place)

pub third_place : (c : Arrival) → IsThird c → IsTruePlace c (Ground third_point)
third_place c h = true_place c h third_point refl (third_position_rounds c.position h.place)

pub fourth_place : (d : Arrival) → IsFourth d → IsTruePlace d (Ground fourth_point)
fourth_place d h = true_place d h fourth_point refl (fourth_position_rounds d.position h.place)

pub true_places : TruePlaces
true_places a b c d h k l m = (first_place a h, second_place b k, third_place c l, fourth_place d m)

pub first_and_second : (a b : Arrival) → IsFirst a → IsSecond b → ArePairTogether 10000 a b
first_and_second a b h k = are_pair a b h k 10000 refl refl (omega arith) (omega arith)

pub second_and_third : (b c : Arrival) → IsSecond b → IsThird c → AreTogether 10000 b c
second_and_third b c h k = are_together b c h k 10000 (omega arith) (omega arith)

pub fourth_and_second : (d b : Arrival) → IsFourth d → IsSecond b → ArePairTogether 10000 d b
fourth_and_second d b h k = are_pair d b h k 10000 refl refl (omega arith) (omega arith)

-- ---- how far apart they are

slow : (a b : Arrival) → IsFirst a → IsSecond b → AreSlow ground first_point second_point a.position b.position
slow a b h k =
    slow_by a.position b.position h.place k.place ground first_point second_point
    (record { above = omega (arith, ints); below = omega (arith, ints) })
    (pos 0, record { above = omega (arith, ints); below = omega (arith, ints) })

slow_last : (d b : Arrival) → IsFourth d → IsSecond b → AreSlow ground fourth_point second_point d.position b.position
slow_last d b h k =
    slow_by d.position b.position h.place k.place ground fourth_point second_point
    (record { above = omega (arith, ints); below = omega (arith, ints) })
    (pos 0, record { above = omega (arith, ints); below = omega (arith, ints) })

-- each less than 44 degrees from the site, which lies on the other side of 180 degrees
first_at_site : (site : Position) (a : Arrival) → IsSite site → IsFirst a → AreWithin 44 a.position site
first_at_site site a s h =
    within_by a.position site h.place s 44
    (record { above = omega (arith, ints); below = omega (arith, ints) })
    (pos 1, record { above = omega (arith, ints); below = omega (arith, ints) })

second_at_site : (site : Position) (b : Arrival) → IsSite site → IsSecond b → AreWithin 44 b.position site
second_at_site site b s h =
    within_by b.position site h.place s 44
    (record { above = omega (arith, ints); below = omega (arith, ints) })
    (pos 1, record { above = omega (arith, ints); below = omega (arith, ints) })

fourth_at_site : (site : Position) (d : Arrival) → IsSite site → IsFourth d → AreWithin 44 d.position site
fourth_at_site site d s h =
    within_by d.position site h.place s 44
    (record { above = omega (arith, ints); below = omega (arith, ints) })
    (pos 1, record { above = omega (arith, ints); below = omega (arith, ints) })

following : (a b : Arrival) → IsFirst a → IsSecond b
    → AreSlowForFollowing ground first_point second_point a.position b.position
following a b h k =
    following_by a.position b.position h.place k.place ground first_point second_point
    (record { above = omega (arith, ints); below = omega (arith, ints) })
    (pos 0, record { above = omega (arith, ints); below = omega (arith, ints) })

following_back : (a b : Arrival) → IsFirst a → IsSecond b
    → AreSlowForFollowing ground second_point first_point b.position a.position
following_back a b h k =
    following_by b.position a.position k.place h.place ground second_point first_point
    (record { above = omega (arith, ints); below = omega (arith, ints) })
    (pos 0, record { above = omega (arith, ints); below = omega (arith, ints) })

pub following_on : (b c : Arrival) → IsSecond b → IsThird c
    → AreSlowForFollowing ground second_point third_point b.position c.position
following_on b c h k =
    following_by b.position c.position h.place k.place ground second_point third_point
    (record { above = omega (arith, ints); below = omega (arith, ints) })
    (pos 0, record { above = omega (arith, ints); below = omega (arith, ints) })

pub following_on_back : (b c : Arrival) → IsSecond b → IsThird c
    → AreSlowForFollowing ground third_point second_point c.position b.position
following_on_back b c h k =
    following_by c.position b.position k.place h.place ground third_point second_point
    (record { above = omega (arith, ints); below = omega (arith, ints) })
    (pos 0, record { above = omega (arith, ints); below = omega (arith, ints) })

pub slow_at_site : (site : Position) (a b : Arrival) → IsSite site → IsFirst a → IsSecond b
    → IsSlow 10000 (Some site) (a ∷ b ∷ [])
slow_at_site site a b s h k =
    (slow_pair_exactly 10000 (Some site) a b (Ground first_point) (Ground second_point) (first_and_second a b h k)
    (first_place a h) (second_place b k)).1
    (slow a b h k, first_at_site site a s h, second_at_site site b s k)

pub last_slow_at_site : (site : Position) (d b : Arrival) → IsSite site → IsFourth d → IsSecond b
    → IsSlow 10000 (Some site) (d ∷ b ∷ [])
last_slow_at_site site d b s h k =
    (slow_pair_exactly 10000 (Some site) d b (Ground fourth_point) (Ground second_point) (fourth_and_second d b h k)
    (fourth_place d h) (second_place b k)).1
    (slow_last d b h k, fourth_at_site site d s h, second_at_site site b s k)

slow_without_site : (a b : Arrival) → IsFirst a → IsSecond b → IsSlow 10000 None (a ∷ b ∷ [])
slow_without_site a b h k =
    (slow_pair_exactly 10000 None a b (Ground first_point) (Ground second_point) (first_and_second a b h k)
    (first_place a h) (second_place b k)).1 (slow a b h k, tt, tt)

slow_for_following : (a b : Arrival) → IsFirst a → IsSecond b → IsSlowForFollowing 10000 (a ∷ b ∷ [])
slow_for_following a b h k =
    (slow_for_following_pair_exactly 10000 a b (Ground first_point) (Ground second_point)
    (first_and_second a b h k).together (first_place a h) (second_place b k)).1
    (following a b h k, following_back a b h k)

pub two_are_slow : TwoAreSlow
two_are_slow site a b s h k = (slow_at_site site a b s h k, slow_without_site a b h k, slow_for_following a b h k)
