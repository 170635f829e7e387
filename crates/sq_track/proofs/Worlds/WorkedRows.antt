-- Worked arrivals: their places, their results, and that they exist.
use Rattle.std.proofs.Common.{◌∙◌, ◌∷◌, [], pos, false, arith, refl, sym, subst}
use Rattle.std.proofs.lemmas.Int.{ints}
use Rattle.sq_angle.specs.declared.position.Position.{Position}
use Rattle.sq_angle.proofs.Congruence.{congruent_refl}
use Rattle.sq_zones.specs.Zones.{zone_limits, zones_at}
use Rattle.sq_cpr.specs.Span.{air}
use Rattle.sq_cpr.specs.Close.{HaveOneCount}
use Rattle.sq_cpr.specs.Grid.{IsGridPoint, circle}
use Rattle.sq_cpr.specs.Rounds.{RoundsTo, PositionRoundsTo}
use Rattle.sq_cpr.specs.Slow.{AreSlow, AreSlowForFollowing}
use Rattle.sq_message.specs.declared.place.Place.TheVariants.{Air}
use Rattle.sq_message.specs.Kinds.{InAir, HeadParts}
use Rattle.sq_message.proofs.WorkedPoints.{even_position_rounds, odd_position_rounds, of_position}
use Rattle.sq_message.specs.Places.{IsAt}
use Rattle.sq_track.specs.declared.heard.Heard.TheVariants.{Fix, Followed}
use Rattle.sq_track.specs.Answers.{IsHeard}
use Rattle.sq_track.specs.Laws.{as_fix, as_waiting}
use Rattle.sq_track.specs.Tame.{ArePairTogether, AreTogether}
use Rattle.sq_track.specs.WorkedArrivals.{parts}
use Rattle.sq_track.specs.Worlds.{Arrival, IsTruePlace}
use Rattle.sq_track.specs.Worked.{IsFirst, IsSecond, IsThird, SecondIsFixed, SecondIsFixedAmongOthers, SomeWorked}
use Rattle.sq_track.specs.Worked.{ThirdIsFollowed, TruePlaces, TwoAreSlow, TwoAreTrue, first_point, second_point}
use Rattle.sq_track.specs.Worked.{third_point}
use Rattle.sq_track.proofs.Histories.OneAddress.{one_address_alone}
use Rattle.sq_track.proofs.Worlds.ByPairs.{slow_for_following_pair_exactly, slow_pair_exactly}
use Rattle.sq_track.proofs.Worlds.Followed.{followed_after_a_fix}
use Rattle.sq_track.proofs.Worlds.SlowWorlds.{slow_for_following_is_tame, slow_worlds_are_tame}
use Rattle.sq_track.proofs.Worlds.SomeFix.{slow_pair_is_fixed}
use Rattle.sq_track.proofs.Worlds.TrueWorlds.{followed_worlds_are_true}
use Rattle.sq_track.proofs.Worlds.WorkedArrivals.{are_pair, are_together, following_by, of_grid, own_entries, slow_by}
use Rattle.sq_track.proofs.Worlds.WorkedArrivals.{some_arrival, some_position, true_place}

-- ---- the points

third_is_point : IsGridPoint air third_point
unfolding zones_at zone_limits
third_is_point = record { north_south = omega (arith, ints); zones = refl; east_west = omega arith }

third_rounds : RoundsTo air (parts 5227 100) (parts 3948 1000) third_point
third_rounds = record {
  of_grid = third_is_point;
  north_south = record { from = omega (arith, ints); below = omega (arith, ints) };
  east_west = (
    pos 50310,
    record { from = omega (arith, ints); below = omega (arith, ints) },
    congruent_refl (circle 35 1) (pos 50310),
  );
}

third_position_rounds : (x : Position) → IsAt (parts 5227 100) (parts 3948 1000) x → PositionRoundsTo air x third_point
third_position_rounds x at = of_position (λ f g. RoundsTo air f g third_point) _ _ x at third_rounds

one_count : HaveOneCount 360 first_point.lat_index second_point.lat_index
unfolding zones_at zone_limits
one_count = refl

-- ---- the arrivals

first_place : (a : Arrival) → IsFirst a → IsTruePlace a (Air first_point)
first_place a h = true_place a h first_point refl (even_position_rounds a.position h.place)

second_place : (b : Arrival) → IsSecond b → IsTruePlace b (Air second_point)
second_place b h = true_place b h second_point refl (odd_position_rounds b.position h.place)

third_place : (c : Arrival) → IsThird c → IsTruePlace c (Air third_point)
third_place c h = true_place c h third_point refl (third_position_rounds c.position h.place)

pub true_places : TruePlaces
true_places a b c h k l = (first_place a h, second_place b k, third_place c l)

first_and_second : (a b : Arrival) → IsFirst a → IsSecond b → ArePairTogether 10000 a b
first_and_second a b h k = are_pair a b h k 10000 refl refl (omega arith) (omega arith)

second_and_third : (b c : Arrival) → IsSecond b → IsThird c → AreTogether 10000 b c
second_and_third b c h k = are_together b c h k 10000 (omega arith) (omega arith)

-- ---- how far apart they are

slow : (a b : Arrival) → IsFirst a → IsSecond b → AreSlow air first_point second_point a.position b.position
slow a b h k =
    slow_by a.position b.position h.place k.place air first_point second_point
    (record { above = omega (arith, ints); below = omega (arith, ints) })
    (pos 0, record { above = omega (arith, ints); below = omega (arith, ints) })

following : (a b : Arrival) → IsFirst a → IsSecond b
    → AreSlowForFollowing air first_point second_point a.position b.position
following a b h k =
    following_by a.position b.position h.place k.place air first_point second_point
    (record { above = omega (arith, ints); below = omega (arith, ints) })
    (pos 0, record { above = omega (arith, ints); below = omega (arith, ints) })

following_back : (a b : Arrival) → IsFirst a → IsSecond b
    → AreSlowForFollowing air second_point first_point b.position a.position
following_back a b h k =
    following_by b.position a.position k.place h.place air second_point first_point
    (record { above = omega (arith, ints); below = omega (arith, ints) })
    (pos 0, record { above = omega (arith, ints); below = omega (arith, ints) })

following_on : (b c : Arrival) → IsSecond b → IsThird c
    → AreSlowForFollowing air second_point third_point b.position c.position
following_on b c h k =
    following_by b.position c.position h.place k.place air second_point third_point
    (record { above = omega (arith, ints); below = omega (arith, ints) })
    (pos 0, record { above = omega (arith, ints); below = omega (arith, ints) })

following_on_back : (b c : Arrival) → IsSecond b → IsThird c
    → AreSlowForFollowing air third_point second_point c.position b.position
following_on_back b c h k =
    following_by c.position b.position k.place h.place air third_point second_point
    (record { above = omega (arith, ints); below = omega (arith, ints) })
    (pos 0, record { above = omega (arith, ints); below = omega (arith, ints) })

-- ---- results

pub two_are_slow : TwoAreSlow
two_are_slow site a b h k =
    let pair = first_and_second a b h k in
    let p = first_place a h in
    let q = second_place b k in (
      (slow_pair_exactly 10000 site a b (Air first_point) (Air second_point) pair p q).1 (slow a b h k),
      (slow_for_following_pair_exactly 10000 a b (Air first_point) (Air second_point) pair.together p q).1
          (following a b h k, following_back a b h k),
    )

pub two_are_true : TwoAreTrue
two_are_true limit site a b replies h k heard =
    let s = two_are_slow site a b h k in
    followed_worlds_are_true (record { limit = limit; window = 10000; site = site }) (a ∷ b ∷ []) replies
    (slow_worlds_are_tame 10000 site (a ∷ b ∷ []) s.0) (slow_for_following_is_tame 10000 (a ∷ b ∷ []) s.1) heard

pub second_is_fixed : SecondIsFixed
second_is_fixed site a b h k =
    subst (λ m. IsHeard 10000 site (as_waiting a ∷ []) m b.squitter (Fix (Air second_point))) k.moment
    (slow_pair_is_fixed 10000 site a b first_point second_point (first_and_second a b h k) (first_place a h)
    (second_place b k) (slow a b h k) one_count)

pub second_is_fixed_among_others : SecondIsFixedAmongOthers
second_is_fixed_among_others site a b other is h k =
    (one_address_alone 10000 site (other ∷ as_waiting a ∷ []) 6000 b.squitter (Fix (Air second_point))).1
    (subst (λ history. IsHeard 10000 site history 6000 b.squitter (Fix (Air second_point)))
    (sym (own_entries a b h k other (λ e. omega (arith, e, is)))) (second_is_fixed site a b h k))

pub third_is_followed : ThirdIsFollowed
third_is_followed site b c h k =
    let p = second_place b h in
    let q = third_place c k in
    let together = second_and_third b c h k in
    subst (λ m. IsHeard 10000 site (as_fix b (Air second_point) ∷ []) m c.squitter (Followed (Air third_point)))
    k.moment
    (followed_after_a_fix 10000 site b c (Air second_point) (Air third_point) together
    (of_grid b h ∙ sym (of_grid c k)) p q
    ((slow_for_following_pair_exactly 10000 b c (Air second_point) (Air third_point) together p q).1
    (following_on b c h k, following_on_back b c h k)))

-- ---- existence

-- CA 5, 40621D, type code 11, and no other field
head : HeadParts InAir
head = record {
  ca = 5;
  address = 0x40621D;
  fields = record {
    type_code = 11;
    status = 0;
    flag = false;
    altitude = 0;
    time = false;
    type_code_in = (omega arith, omega arith, λ e. omega (arith, e));
    status_in = omega arith;
    altitude_in = omega arith;
  };
}

some_first : (a : Arrival) × IsFirst a
unfolding head
some_first =
    let at = some_position (parts 522572021 10000000) (parts 39193726 10000000)
    (record { positive = omega arith; at_most = omega arith; within = omega arith })
    (record { positive = omega arith; at_most = omega arith; within = omega arith })
    (record { latitude = omega arith; longitude = omega arith }) in
    some_arrival InAir head (omega arith) (omega arith) 0 first_point 93000 51372 (omega arith) (omega arith) refl
    at.0 at.1 (even_position_rounds at.0 at.1)

some_second : (b : Arrival) × IsSecond b
unfolding head
some_second =
    let at = some_position (parts 5226578 100000) (parts 393891 100000)
    (record { positive = omega arith; at_most = omega arith; within = omega arith })
    (record { positive = omega arith; at_most = omega arith; within = omega arith })
    (record { latitude = omega arith; longitude = omega arith }) in
    some_arrival InAir head (omega arith) (omega arith) 6000 second_point 74158 50194 (omega arith) (omega arith) refl
    at.0 at.1 (odd_position_rounds at.0 at.1)

some_third : (c : Arrival) × IsThird c
unfolding head
some_third =
    let at = some_position (parts 5227 100) (parts 3948 1000)
    (record { positive = omega arith; at_most = omega arith; within = omega arith })
    (record { positive = omega arith; at_most = omega arith; within = omega arith })
    (record { latitude = omega arith; longitude = omega arith }) in
    some_arrival InAir head (omega arith) (omega arith) 9000 third_point 74249 50310 (omega arith) (omega arith) refl
    at.0 at.1 (third_position_rounds at.0 at.1)

pub some_worked : SomeWorked
some_worked = (some_first.0, some_second.0, some_third.0, some_first.1, some_second.1, some_third.1)
