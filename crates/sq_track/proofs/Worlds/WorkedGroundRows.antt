-- Worked arrivals on the ground: their results, and that they exist.
use Rattle.std.proofs.Common.{◌≡◌, ◌∙◌, ◌∷◌, [], false, Some, None, Result, Err, arith, refl, sym, subst}
use Rattle.std.proofs.lemmas.Int.{ints}
use Rattle.sq_angle.specs.declared.position.Position.{Position}
use Rattle.sq_zones.specs.declared.parity.Parity.TheVariants.{Even, Odd}
use Rattle.sq_message.specs.declared.place.Place.{Place}
use Rattle.sq_message.specs.declared.place.Place.TheVariants.{Ground}
use Rattle.sq_message.specs.declared.place.PlaceFault.{PlaceFault}
use Rattle.sq_message.specs.declared.place.PlaceFault.TheVariants as faults
use Rattle.sq_message.specs.Kinds.{OnGround, me_of, HeadParts}
use Rattle.sq_message.specs.Parts.{squitter_parts}
use Rattle.sq_message.specs.Places.{IsPlaceOfOneAddress}
use Rattle.sq_message.proofs.WorkedGround.{even_beyond_position_rounds, odd_beyond_position_rounds}
use Rattle.sq_track.specs.declared.heard.Heard.TheVariants.{Fix, Followed, NoSite}
use Rattle.sq_track.specs.Answers.{IsHeard}
use Rattle.sq_track.specs.Laws.{as_fix, as_waiting}
use Rattle.sq_track.specs.WorkedArrivals.{parts, west}
use Rattle.sq_track.specs.Worlds.{Arrival}
use Rattle.sq_track.specs.WorkedGround.{FourthIsFixed, IsFirst, IsFourth, IsSecond, IsSite, IsThird, SecondIsFixed}
use Rattle.sq_track.specs.WorkedGround.{SecondIsFixedAmongOthers, SecondWantsASite, SomeWorked, ThirdIsFollowed}
use Rattle.sq_track.specs.WorkedGround.{TwoAreTrue, first_point, fourth_point, second_point, third_point}
use Rattle.sq_track.proofs.Histories.OneAddress.{one_address_alone}
use Rattle.sq_track.proofs.Worlds.ByPairs.{slow_for_following_pair_exactly}
use Rattle.sq_track.proofs.Worlds.Followed.{followed_after_a_fix}
use Rattle.sq_track.proofs.Worlds.SlowWorlds.{slow_for_following_is_tame, slow_worlds_are_tame}
use Rattle.sq_track.proofs.Worlds.SomeFix.{differ, even_then_odd, odd_first_is_fixed_on_ground, told}
use Rattle.sq_track.proofs.Worlds.SomeFix.{slow_pair_is_fixed_on_ground}
use Rattle.sq_track.proofs.Worlds.TrueWorlds.{followed_worlds_are_true}
use Rattle.sq_track.proofs.Worlds.WorkedArrivals.{of_grid, own_entries, some_arrival, some_position}
use Rattle.sq_track.proofs.Worlds.WorkedGround.{first_and_second, first_place, following_on, following_on_back}
use Rattle.sq_track.proofs.Worlds.WorkedGround.{fourth_and_second, fourth_place, fourth_position_rounds, last_count}
use Rattle.sq_track.proofs.Worlds.WorkedGround.{last_slow_at_site, one_count, second_and_third, second_place}
use Rattle.sq_track.proofs.Worlds.WorkedGround.{slow_at_site, third_place, third_position_rounds, two_are_slow}

-- ---- results

pub two_are_true : TwoAreTrue
two_are_true limit site a b replies s h k heard =
    let all = two_are_slow site a b s h k in
    followed_worlds_are_true (record { limit = limit; window = 10000; site = Some site }) (a ∷ b ∷ []) replies
    (slow_worlds_are_tame 10000 (Some site) (a ∷ b ∷ []) all.0) (slow_for_following_is_tame 10000 (a ∷ b ∷ []) all.2)
    heard

pub second_is_fixed : SecondIsFixed
second_is_fixed site a b s h k =
    subst (λ m. IsHeard 10000 (Some site) (as_waiting a ∷ []) m b.squitter (Fix (Ground second_point))) k.moment
    (slow_pair_is_fixed_on_ground 10000 site a b first_point second_point (first_and_second a b h k) (first_place a h)
    (second_place b k) (slow_at_site site a b s h k) one_count)

pub fourth_is_fixed : FourthIsFixed
fourth_is_fixed site b d s h k =
    subst (λ m. IsHeard 10000 (Some site) (as_waiting b ∷ []) m d.squitter (Fix (Ground fourth_point))) k.moment
    (odd_first_is_fixed_on_ground 10000 site b d second_point fourth_point (fourth_and_second d b k h)
    (second_place b h) (fourth_place d k) (last_slow_at_site site d b s k h) last_count)

-- without a site, decoding two surface messages of both parities can only give `NoSite`
no_site : (a b : Arrival) → IsFirst a → IsSecond b → (answer : Result Place PlaceFault)
    → IsPlaceOfOneAddress (squitter_parts a.squitter).me (squitter_parts b.squitter).me None answer
    → answer ≡ Err faults.NoSite
no_site a b h k answer here =
    let there = subst (λ m. IsPlaceOfOneAddress m (me_of OnGround k.head Odd k.code) None answer) h.me
    (subst (λ n. IsPlaceOfOneAddress (squitter_parts a.squitter).me n None answer) k.me here) in
    there.1 (differ Even Odd refl refl).0

pub second_wants_a_site : SecondWantsASite
second_wants_a_site a b h k =
    let pair = first_and_second a b h k in
    subst (λ m. IsHeard 10000 None (as_waiting a ∷ []) m b.squitter NoSite) k.moment
    (told 10000 None a b (Ground first_point) (Ground second_point) pair.together (even_then_odd _ _ pair.even pair.odd)
    (first_place a h) (second_place b k) (Err faults.NoSite) (no_site a b h k) NoSite refl (λ fix. refl))

pub second_is_fixed_among_others : SecondIsFixedAmongOthers
second_is_fixed_among_others site a b other is s h k =
    (one_address_alone 10000 (Some site) (other ∷ as_waiting a ∷ []) 6000 b.squitter (Fix (Ground second_point))).1
    (subst (λ history. IsHeard 10000 (Some site) history 6000 b.squitter (Fix (Ground second_point)))
    (sym (own_entries a b h k other (λ e. omega (arith, e, is)))) (second_is_fixed site a b s h k))

pub third_is_followed : ThirdIsFollowed
third_is_followed site b c h k =
    let p = second_place b h in
    let q = third_place c k in
    let together = second_and_third b c h k in
    subst (λ m. IsHeard 10000 site (as_fix b (Ground second_point) ∷ []) m c.squitter (Followed (Ground third_point)))
    k.moment
    (followed_after_a_fix 10000 site b c (Ground second_point) (Ground third_point) together
    (of_grid b h ∙ sym (of_grid c k)) p q
    ((slow_for_following_pair_exactly 10000 b c (Ground second_point) (Ground third_point) together p q).1
    (following_on b c h k, following_on_back b c h k)))

-- ---- existence

-- CA 4, 484175, type code 7, and no other field
head : HeadParts OnGround
head = record {
  ca = 4;
  address = 0x484175;
  fields = record {
    type_code = 7;
    movement = 0;
    track_status = false;
    track = 0;
    time = false;
    type_code_in = (omega arith, omega arith);
    movement_in = omega arith;
    track_in = omega arith;
  };
}

some_first : (a : Arrival) × IsFirst a
unfolding head
some_first =
    let at = some_position (parts 523230400 10000000) (west 1752695274 10000000)
    (record { positive = omega arith; at_most = omega arith; within = omega arith })
    (record { positive = omega arith; at_most = omega arith; within = omega (arith, ints) })
    (record { latitude = omega arith; longitude = omega (arith, ints) }) in
    some_arrival OnGround head (omega arith) (omega arith) 0 first_point 115609 116941 (omega arith) (omega arith)
    refl at.0 at.1 (even_beyond_position_rounds at.0 at.1)

some_second : (b : Arrival) × IsSecond b
unfolding head
some_second =
    let at = some_position (parts 523206071 10000000) (west 1752652653 10000000)
    (record { positive = omega arith; at_most = omega arith; within = omega arith })
    (record { positive = omega arith; at_most = omega arith; within = omega (arith, ints) })
    (record { latitude = omega arith; longitude = omega (arith, ints) }) in
    some_arrival OnGround head (omega arith) (omega arith) 6000 second_point 39199 110269 (omega arith) (omega arith)
    refl at.0 at.1 (odd_beyond_position_rounds at.0 at.1)

some_third : (c : Arrival) × IsThird c
unfolding head
some_third =
    let at = some_position (parts 5232 100) (west 175264 1000)
    (record { positive = omega arith; at_most = omega arith; within = omega arith })
    (record { positive = omega arith; at_most = omega arith; within = omega (arith, ints) })
    (record { latitude = omega arith; longitude = omega (arith, ints) }) in
    some_arrival OnGround head (omega arith) (omega arith) 9000 third_point 39147 110333 (omega arith) (omega arith)
    refl at.0 at.1 (third_position_rounds at.0 at.1)

some_fourth : (d : Arrival) × IsFourth d
unfolding head
some_fourth =
    let at = some_position (parts 523194 10000) (west 1752629 10000)
    (record { positive = omega arith; at_most = omega arith; within = omega arith })
    (record { positive = omega arith; at_most = omega arith; within = omega (arith, ints) })
    (record { latitude = omega arith; longitude = omega (arith, ints) }) in
    some_arrival OnGround head (omega arith) (omega arith) 12000 fourth_point 115291 117288 (omega arith) (omega arith)
    refl at.0 at.1 (fourth_position_rounds at.0 at.1)

some_site : (site : Position) × IsSite site
some_site =
    some_position (parts 51990 1000) (parts 179375 1000)
    (record { positive = omega arith; at_most = omega arith; within = omega arith })
    (record { positive = omega arith; at_most = omega arith; within = omega arith })
    (record { latitude = omega arith; longitude = omega arith })

pub some_worked : SomeWorked
some_worked = (
  some_first.0,
  some_second.0,
  some_third.0,
  some_fourth.0,
  some_site.0,
  some_first.1,
  some_second.1,
  some_third.1,
  some_fourth.1,
  some_site.1,
)
