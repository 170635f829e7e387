-- After a fix, a slow arrival of the same parity is followed to its true place.
use Rattle.std.proofs.Common.{◌≡◌, ◌∙◌, ◌+◌, Bool, true, false, ◌&&◌, cond, leb, [], ◌∷◌, Option, Some, None, Result}
use Rattle.std.proofs.Common.{Ok, refl, sym, ap, subst}
use Rattle.std.proofs.lemmas.Bool.{le-leb, and_from}
use Rattle.sq_angle.specs.declared.position.Position.{Position}
use Rattle.sq_zones.specs.declared.parity.Parity.{Parity}
use Rattle.sq_zones.specs.declared.parity.Parity.TheVariants.{Even, Odd}
use Rattle.sq_message.specs.declared.squitter.Me.{Me}
use Rattle.sq_message.specs.declared.squitter.Me.TheVariants as kinds
use Rattle.sq_message.specs.declared.place.Place.{Place}
use Rattle.sq_message.specs.declared.place.Place.TheVariants.{Air, Ground}
use Rattle.sq_message.specs.declared.place.PlaceFault.{PlaceFault}
use Rattle.sq_message.specs.Parts.{squitter_parts}
use Rattle.sq_message.specs.Places.{IsLocalPlace, IsPositionOf}
use Rattle.sq_track.specs.declared.heard.Heard.{Heard}
use Rattle.sq_track.specs.declared.heard.Heard.TheVariants.{Fix, Followed, Waiting}
use Rattle.sq_track.specs.History.{Entry, are_of_one_sender, are_even_and_odd, is_fix_of, parity_of, place_of}
use Rattle.sq_track.specs.History.{if_recent, counterpart, last_fix, squitter_of}
use Rattle.sq_track.specs.Worlds.{IsPlaceOf, IsEncodedFrom}
use Rattle.sq_track.specs.Answers.{heard_alone, heard_near, IsHeardNear, IsHeardOfPair}
use Rattle.sq_track.specs.Tame.{AreNearPlaces}
use Rattle.sq_track.specs.Laws.{FollowedAfterAFix}
use Rattle.sq_track.proofs.Histories.SomeAnswer.{IsOnGrid, position_of_place}
use Rattle.sq_message.proofs.OnePlace.{some_local}
use Rattle.sq_track.proofs.Worlds.ByPairs.{in_pair}
use Rattle.sq_track.proofs.Worlds.Nearby.{near_in_air, near_on_ground}
use Rattle.sq_track.proofs.Worlds.Places.{one_place}
use Rattle.sq_track.proofs.Worlds.SlowWorlds.{slow_for_following_is_tame}

-- a true place lies on its grid
on_grid : (m : Me) (x : Position) (p : Place) → IsPlaceOf m x p → IsOnGrid p
on_grid (kinds.Airborne a) x (Air p) h = h.1.of_grid
on_grid (kinds.Airborne a) x (Ground p) h = absurd h
on_grid (kinds.Surface s) x (Ground p) h = h.1.of_grid
on_grid (kinds.Surface s) x (Air p) h = absurd h
on_grid (kinds.Other o) x p h = absurd h

-- a message is decoded to its true place if the reference is the position of a place near it
decoded : (n : Me) (y : Position) (p q : Place) (reference : Position) (answer : Result Place PlaceFault)
    → IsEncodedFrom n y → IsPlaceOf n y q → AreNearPlaces p q → IsPositionOf p reference
    → IsLocalPlace n reference answer → answer ≡ Ok q
decoded (kinds.Airborne n) y (Air a) (Air b) reference answer (Air c, h, code) k near at local =
    let same : ◌≡◌ {A = Place} (Air c) (Air b) = one_place (kinds.Airborne n) y (Air c) (Air b) h k in
    let near_c = subst (λ x. AreNearPlaces (Air a) x) (sym same) near in
    near_in_air n y reference a c answer h code at near_c.1 local ∙ ap (λ x. Ok x) same
decoded (kinds.Airborne n) y (Air a) (Ground b) reference answer first k near at local = absurd k
decoded (kinds.Airborne n) y (Ground a) (Air b) reference answer first k near at local = absurd near
decoded (kinds.Airborne n) y (Ground a) (Ground b) reference answer first k near at local = absurd k
decoded (kinds.Airborne n) y (Air a) (Air b) reference answer (Ground c, h, code) k near at local = absurd h
decoded (kinds.Surface n) y (Ground a) (Ground b) reference answer (Ground c, h, code) k near at local =
    let same : ◌≡◌ {A = Place} (Ground c) (Ground b) = one_place (kinds.Surface n) y (Ground c) (Ground b) h k in
    let near_c = subst (λ x. AreNearPlaces (Ground a) x) (sym same) near in
    near_on_ground n y reference a c answer h code at near_c.1 local ∙ ap (λ x. Ok x) same
decoded (kinds.Surface n) y (Ground a) (Air b) reference answer first k near at local = absurd k
decoded (kinds.Surface n) y (Air a) (Ground b) reference answer first k near at local = absurd near
decoded (kinds.Surface n) y (Air a) (Air b) reference answer first k near at local = absurd k
decoded (kinds.Surface n) y (Ground a) (Ground b) reference answer (Air c, h, code) k near at local = absurd h
decoded (kinds.Other n) y p q reference answer first k near at local = absurd k

-- a message with a true place is a position, and waits if it is alone
alone : (n : Me) (y : Position) (q : Place) → IsPlaceOf n y q → ◌≡◌ {A = Heard} Waiting (heard_alone n)
alone (kinds.Airborne n) y q k = refl
alone (kinds.Surface n) y q k = refl
alone (kinds.Other n) y q k = absurd k

-- two messages of one parity are not a pair
no_pair : (b : Bool) (o n : Option Parity) → o ≡ n → (b && are_even_and_odd o n) ≡ false
no_pair b o n same = subst (λ x. (b && are_even_and_odd o x) ≡ false) same (itself b o)
  where
    itself : (b : Bool) (o : Option Parity) → (b && are_even_and_odd o o) ≡ false
    itself true (Some Even) = refl
    itself true (Some Odd) = refl
    itself true None = refl
    itself false o = refl

pub followed_after_a_fix : FollowedAfterAFix
followed_after_a_fix window site a b p q together same h k slow =
    let n = (squitter_parts b.squitter).me in
    let entry : Entry = record { moment = a.moment; squitter = a.squitter; heard = Fix p } in
    let sender = are_of_one_sender a.squitter b.squitter in
    let recent : leb b.moment (a.moment + window) ≡ true =
    le-leb b.moment (a.moment + window) together.not_after in
    let none : counterpart window (entry ∷ []) b.moment b.squitter ≡ None =
    ap (λ t. squitter_of (if_recent window b.moment (cond t (Some entry) None)))
    (no_pair sender (parity_of (squitter_parts a.squitter).me) (parity_of n) same) in
    let is_fix : is_fix_of b.squitter entry ≡ true = and_from sender true together.sender refl in
    let fix : last_fix window (entry ∷ []) b.moment b.squitter ≡ Some p =
    ap (λ t. place_of (if_recent window b.moment (cond t (Some entry) None))) is_fix
    ∙ ap (λ t. place_of (cond t (Some entry) None)) recent in
    let tame = slow_for_following_is_tame window (a ∷ b ∷ []) slow in
    let near = tame a b (in_pair a b).0 (in_pair a b).1.0 together p q h k in
    let at = position_of_place p (on_grid (squitter_parts a.squitter).me a.position p h) in
    let local = some_local n at.0 in
    let is = decoded n b.position p q at.0 local.0 b.encoded k near at.1 local.1 in
    record {
      of_pair = Waiting;
      pair = subst (λ o. IsHeardOfPair site o b.squitter Waiting) (sym none) (alone n b.position q k);
      after = subst (λ o. IsHeardNear o b.squitter Waiting (Followed q)) (sym fix)
          (local.0, (at.0, at.1, local.1), sym (ap (heard_near Waiting) is));
    }
