-- A world that stands still is slow, and a place is strictly near itself.
use Rattle.std.proofs.Common.{◌≡◌, ℕ, ◌*◌, ◌<◌, ◌≤◌, max, min, ℤ, pos, ◌*ℤ◌, ◌<ℤ◌, true, Option, refl, ap, arith}
use Rattle.std.proofs.Common.{mul-le-mul_left, mul-le-mul}
use Rattle.std.proofs.lemmas.Bool.{false≢true}
use Rattle.std.proofs.lemmas.Int.{ints}
use Rattle.sq_angle.specs.declared.position.Position.{Position}
use Rattle.sq_angle.specs.Angle.{degrees}
use Rattle.sq_angle.specs.Fraction.{Fraction, minus}
use Rattle.sq_angle.specs.Position.{lat_of, lon_of}
use Rattle.sq_angle.specs.Scale.{scale-lt, scale-neg}
use Rattle.sq_zones.proofs.ZoneBounds.{lon_zones_at-least, lon_zones_at-most}
use Rattle.sq_cpr.specs.Span.{Span, air, ground}
use Rattle.sq_cpr.specs.Grid.{Point, IsGridPoint, latitude}
use Rattle.sq_cpr.specs.Close.{difference}
use Rattle.sq_cpr.specs.Slow.{IsSmallerThan, DifferByLess, DifferByLessAround, AreSlow, AreSlowForFollowing, slow_limit}
use Rattle.sq_cpr.specs.Slow.{following_limit}
use Rattle.sq_message.specs.declared.squitter.Me.{Me}
use Rattle.sq_message.specs.declared.squitter.Me.TheVariants as kinds
use Rattle.sq_message.specs.declared.place.Place.{Place}
use Rattle.sq_message.specs.declared.place.Place.TheVariants.{Air, Ground}
use Rattle.sq_message.specs.Parts.{squitter_parts}
use Rattle.sq_track.specs.History.{are_of_one_kind}
use Rattle.sq_track.specs.Worlds.{IsPlaceOf}
use Rattle.sq_track.specs.Tame.{AreSlowPlaces, AreSlowToFollow, IsSenderNearSite}
use Rattle.sq_track.specs.Standing.{AreOnePlace}
use Rattle.sq_track.specs.Laws.{NearItself, StandingIsSlow, StandingIsSlowForFollowing}
use Rattle.sq_track.proofs.Histories.Entries.{sender_parts}
use Rattle.sq_track.proofs.Worlds.SlowWorlds.{slow_to_follow}

-- zero is smaller than a positive limit
nothing_smaller : (limit d : Fraction) → pos 0 <ℤ limit.num → 0 < d.den → d.num ≡ pos 0 → IsSmallerThan limit d
nothing_smaller limit d positive some nothing =
    let more = scale-lt d.den (pos 0) limit.num some positive in
    let zero : pos limit.den *ℤ d.num ≡ pos limit.den *ℤ pos 0 = ap (λ (a : ℤ). pos limit.den *ℤ a) nothing in
    record {
      above = omega (arith, ints, more, zero, scale-neg d.den limit.num);
      below = omega (arith, ints, more, zero);
    }

slow_positive : (w n m : ℕ) → 1 ≤ w → 1 ≤ m → n ≤ 60 → pos 0 <ℤ (slow_limit w n m).num
slow_positive w n m some zones few =
    let one : 1 * 1 ≤ m * w = mul-le-mul zones some in
    let fewer : (m * w) * n ≤ (m * w) * 60 = mul-le-mul_left (m * w) few in
    omega (arith, ints, one, fewer)

following_positive : (w n m : ℕ) → 1 ≤ w → 1 ≤ m → n ≤ 60 → pos 0 <ℤ (following_limit w n m).num
following_positive w n m some zones few =
    let one : 1 * w ≤ m * w = mul-le-mul zones (omega arith) in
    let fewer : w * n ≤ w * 60 = mul-le-mul_left w few in
    omega (arith, ints, one, fewer)

some_den : (a b : ℕ) → 1 ≤ a → 1 ≤ b → 0 < a * b
some_den a b p q = let one : 1 * 1 ≤ a * b = mul-le-mul p q in omega (arith, one)

-- one latitude has no difference, and one longitude has none after its turns
latitudes_still : (limit : Fraction) (x y : Position) → pos 0 <ℤ limit.num → AreOnePlace x y
    → DifferByLess limit (degrees (lat_of x)) (degrees (lat_of y))
latitudes_still limit x y positive one =
    nothing_smaller limit (minus (degrees (lat_of x)) (degrees (lat_of y))) positive
    (some_den x.lat.den y.lat.den x.lat.in_range.positive y.lat.in_range.positive)
    (omega (arith, ints, one.latitudes))

longitudes_still : (limit : Fraction) (x y : Position) → pos 0 <ℤ limit.num → AreOnePlace x y
    → DifferByLessAround limit (degrees (lon_of x)) (degrees (lon_of y))
longitudes_still limit x y positive one =
    let some = some_den x.lon.den y.lon.den x.lon.in_range.positive y.lon.in_range.positive in (
      one.turns,
      nothing_smaller limit (difference 360 (degrees (lon_of x)) (degrees (lon_of y)) one.turns) positive
          (omega (arith, some)) one.longitudes,
    )

-- the number of zones of a point is from 1 to 59
zones_within : (span : Span) (p : Point) → IsGridPoint span p → (1 ≤ p.zones) × (p.zones ≤ 59)
zones_within span p h = (
  rw h.zones (lon_zones_at-least p.parity (latitude span p)),
  rw h.zones (lon_zones_at-most p.parity (latitude span p)),
)

module _ (span : Span) (some : 1 ≤ span.degrees) (p q : Point) (p_is : IsGridPoint span p) (q_is : IsGridPoint span q)
    (x y : Position) (one : AreOnePlace x y) where
  slow_still : AreSlow span p q x y
  slow_still =
      let a = zones_within span p p_is in
      let b = zones_within span q q_is in
      record {
        latitudes = latitudes_still (slow_limit span.degrees 60 59) x y
            (slow_positive span.degrees 60 59 some (omega arith) (omega arith)) one;
        longitudes = λ counts more. longitudes_still (slow_limit span.degrees p.zones q.zones) x y
            (slow_positive span.degrees p.zones q.zones some b.0 (omega (arith, a.1))) one;
      }

  follows_still : AreSlowForFollowing span p q x y
  follows_still =
      let a = zones_within span p p_is in
      let b = zones_within span q q_is in
      let least : 1 ≤ min p.zones q.zones = omega (arith, a.0, b.0) in
      let most : max p.zones q.zones ≤ 60 = omega (arith, a.1, b.1) in
      record {
        latitudes = latitudes_still (following_limit span.degrees 60 59) x y
            (following_positive span.degrees 60 59 some (omega arith) (omega arith)) one;
        longitudes = longitudes_still (following_limit span.degrees (max p.zones q.zones) (min p.zones q.zones)) x y
            (following_positive span.degrees (max p.zones q.zones) (min p.zones q.zones) some least most) one;
      }

places_still : (m n : Me) (site : Option Position) (x y : Position) (p q : Place) → are_of_one_kind m n ≡ true
    → IsPlaceOf m x p → IsPlaceOf n y q
    → AreOnePlace x y → IsSenderNearSite site m x → IsSenderNearSite site n y → AreSlowPlaces site p q x y
places_still (kinds.Airborne a) (kinds.Airborne b) site x y (Air p) (Air q) kind h k one near_x near_y =
    slow_still air (omega arith) p q h.1.of_grid k.1.of_grid x y one
places_still (kinds.Airborne a) (kinds.Airborne b) site x y (Air p) (Ground q) kind h k one near_x near_y = absurd k
places_still (kinds.Airborne a) (kinds.Airborne b) site x y (Ground p) q kind h k one near_x near_y = absurd h
places_still (kinds.Surface a) (kinds.Surface b) site x y (Ground p) (Ground q) kind h k one near_x near_y =
    (slow_still ground (omega arith) p q h.1.of_grid k.1.of_grid x y one, near_x, near_y)
places_still (kinds.Surface a) (kinds.Surface b) site x y (Ground p) (Air q) kind h k one near_x near_y = absurd k
places_still (kinds.Surface a) (kinds.Surface b) site x y (Air p) q kind h k one near_x near_y = absurd h
places_still (kinds.Airborne a) (kinds.Surface b) site x y p q kind h k one near_x near_y = absurd (false≢true kind)
places_still (kinds.Airborne a) (kinds.Other b) site x y p q kind h k one near_x near_y = absurd (false≢true kind)
places_still (kinds.Surface a) (kinds.Airborne b) site x y p q kind h k one near_x near_y = absurd (false≢true kind)
places_still (kinds.Surface a) (kinds.Other b) site x y p q kind h k one near_x near_y = absurd (false≢true kind)
places_still (kinds.Other a) n site x y p q kind h k one near_x near_y = absurd h

pub followed_still : (m n : Me) (x y : Position) (p q : Place) → are_of_one_kind m n ≡ true → IsPlaceOf m x p
    → IsPlaceOf n y q → AreOnePlace x y → AreSlowToFollow p q x y
followed_still (kinds.Airborne a) (kinds.Airborne b) x y (Air p) (Air q) kind h k one =
    follows_still air (omega arith) p q h.1.of_grid k.1.of_grid x y one
followed_still (kinds.Airborne a) (kinds.Airborne b) x y (Air p) (Ground q) kind h k one = absurd k
followed_still (kinds.Airborne a) (kinds.Airborne b) x y (Ground p) q kind h k one = absurd h
followed_still (kinds.Surface a) (kinds.Surface b) x y (Ground p) (Ground q) kind h k one =
    follows_still ground (omega arith) p q h.1.of_grid k.1.of_grid x y one
followed_still (kinds.Surface a) (kinds.Surface b) x y (Ground p) (Air q) kind h k one = absurd k
followed_still (kinds.Surface a) (kinds.Surface b) x y (Air p) q kind h k one = absurd h
followed_still (kinds.Airborne a) (kinds.Surface b) x y p q kind h k one = absurd (false≢true kind)
followed_still (kinds.Airborne a) (kinds.Other b) x y p q kind h k one = absurd (false≢true kind)
followed_still (kinds.Surface a) (kinds.Airborne b) x y p q kind h k one = absurd (false≢true kind)
followed_still (kinds.Surface a) (kinds.Other b) x y p q kind h k one = absurd (false≢true kind)
followed_still (kinds.Other a) n x y p q kind h k one = absurd h

pub standing_is_slow : StandingIsSlow
standing_is_slow window site world standing near a b a_in b_in pair p q h k =
    places_still (squitter_parts a.squitter).me (squitter_parts b.squitter).me site a.position b.position p q
    (sender_parts a.squitter b.squitter pair.together.sender).1 h k
    (standing a b a_in b_in pair.together.sender) (near a a_in) (near b b_in)

pub standing_is_slow_for_following : StandingIsSlowForFollowing
standing_is_slow_for_following window world standing a b a_in b_in together p q h k =
    followed_still (squitter_parts a.squitter).me (squitter_parts b.squitter).me a.position b.position p q
    (sender_parts a.squitter b.squitter together.sender).1 h k
    (standing a b a_in b_in together.sender)

-- a position is one place with itself
pub one_with_itself : (x : Position) → AreOnePlace x x
one_with_itself x = record { latitudes = refl; turns = pos 0; longitudes = omega (arith, ints) }

pub own_kind : (m : Me) (x : Position) (p : Place) → IsPlaceOf m x p → are_of_one_kind m m ≡ true
own_kind (kinds.Airborne a) x p h = refl
own_kind (kinds.Surface a) x p h = refl
own_kind (kinds.Other a) x p h = absurd h

pub near_itself : NearItself
near_itself a p h =
    let m = (squitter_parts a.squitter).me in
    slow_to_follow m m a.position a.position p p h h
    (followed_still m m a.position a.position p p (own_kind m a.position p h) h h (one_with_itself a.position))
