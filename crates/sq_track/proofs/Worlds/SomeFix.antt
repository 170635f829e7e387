-- Slow worlds have fixes: a slow pair with one zone count gives the fix of the newer's true place.
use Rattle.std.proofs.Common.{◌≡◌, ◌≢◌, ◌∙◌, ◌+◌, ℕ, true, cond, leb, [], ◌∷◌, Option, Some, None, Result, Ok, Err}
use Rattle.std.proofs.Common.{refl, sym, ap, subst}
use Rattle.std.proofs.lemmas.Bool.{le-leb, and_from}
use Rattle.sq_angle.specs.declared.position.Position.{Position}
use Rattle.sq_zones.specs.declared.parity.Parity.{Parity}
use Rattle.sq_zones.specs.declared.parity.Parity.TheVariants.{Even, Odd}
use Rattle.sq_cpr.specs.declared.faults.PairFault.{PairFault}
use Rattle.sq_cpr.specs.declared.faults.PairFault.TheVariants as pairs
use Rattle.sq_cpr.specs.Close.{HaveOneCount}
use Rattle.sq_cpr.specs.Span.{Span, air, ground}
use Rattle.sq_cpr.specs.DecodeLaws.{TameAnswer}
use Rattle.sq_cpr.specs.Grid.{Point}
use Rattle.sq_cpr.specs.Pair.{AirPairAnswer, PairAnswerAt, of_parity}
use Rattle.sq_cpr.specs.Slow.{AreSlow}
use Rattle.sq_cpr.proofs.Decoding.PairPoints.{tame_air_points_are_answered, tame_ground_points_are_answered}
use Rattle.sq_cpr.proofs.Distances.SiteLaw.{rounds_near_site}
use Rattle.sq_cpr.proofs.Distances.SlowLaw.{slow_is_tame}
use Rattle.sq_message.specs.declared.squitter.Me.{Me}
use Rattle.sq_message.specs.declared.squitter.Me.TheVariants as kinds
use Rattle.sq_message.specs.declared.place.Place.{Place}
use Rattle.sq_message.specs.declared.place.Place.TheVariants.{Air, Ground}
use Rattle.sq_message.specs.declared.place.PlaceFault.{PlaceFault}
use Rattle.sq_message.specs.Parts.{squitter_parts}
use Rattle.sq_message.specs.Places.{IsPosition, IsPlaceOfOneAddress, of_pair, pair_by_parity, place_of}
use Rattle.sq_message.proofs.PlaceLemmas.{has_code}
use Rattle.sq_track.specs.declared.heard.Heard.{Heard}
use Rattle.sq_track.specs.declared.heard.Heard.TheVariants.{Fix, Waiting}
use Rattle.sq_track.specs.History.{Entry, are_of_one_sender, are_even_and_odd, are_a_pair, parity_of, if_recent}
use Rattle.sq_track.specs.History.{counterpart, last_fix, squitter_of}
use Rattle.sq_track.specs.Worlds.{Arrival, IsPlaceOf, HasCodeOf, IsEncodedFrom, IsTruePlace}
use Rattle.sq_track.specs.Answers.{heard_of_pair, IsHeard, IsHeardAfter, IsHeardOfPair}
use Rattle.sq_track.specs.Tame.{AreTogether, AreSlowPlaces}
use Rattle.sq_track.specs.Laws.{OddFirstIsFixed, OddFirstIsFixedOnGround, SlowPairIsFixed, SlowPairIsFixedOnGround}
use Rattle.sq_track.proofs.Histories.Entries.{sender_parts, together_sym}
use Rattle.sq_track.proofs.Lists.Found.{same_some}
use Rattle.sq_track.proofs.Worlds.ByPairs.{slow_pair_exactly}
use Rattle.sq_track.proofs.Worlds.Places.{one_place}
use Rattle.sq_message.proofs.OnePlace.{some_pair_place}

-- the result for tame points with one zone count is the newest
one_count : (span : Span) (named : Point → Place) (newest : Parity) (a b : Point) (found : Result Point PairFault)
    → HaveOneCount span.degrees a.lat_index b.lat_index → TameAnswer span newest a b found
    → place_of named of_pair found ≡ Ok (named (of_parity newest a b))
one_count span named newest a b (Ok p) same h = ap (λ x. Ok (named x)) h
one_count span named newest a b (Err pairs.OutOfRange) same h = absurd h
one_count span named newest a b (Err (pairs.ZoneCounts even odd)) same h =
    absurd (h.differ (h.even ∙ same ∙ sym h.odd))

-- an even and an odd parity differ, in both orders
pub differ : (p q : Parity) → p ≡ Even → q ≡ Odd → (p ≢ q) × (q ≢ p)
differ p q even odd =
    let never : ◌≢◌ {A = Parity} Even Odd = λ bad. absurd (cc bad) in
    (λ e. never (sym even ∙ e ∙ odd), λ e. never (sym even ∙ sym e ∙ odd))

-- a message has the code of the place that it was encoded from
code_of_place : (m : Me) (x : Position) (p : Place) → IsEncodedFrom m x → IsPlaceOf m x p → HasCodeOf m p
code_of_place (kinds.Airborne o) x p (a, h, code) p_is =
    subst (HasCodeOf (kinds.Airborne o)) (one_place (kinds.Airborne o) x a p h p_is) code
code_of_place (kinds.Surface o) x p (a, h, code) p_is =
    subst (HasCodeOf (kinds.Surface o)) (one_place (kinds.Surface o) x a p h p_is) code
code_of_place (kinds.Other o) x p first p_is = absurd p_is

-- Two messages that were encoded in the air from slow positions; the newer has this parity. Slowness is of the even
-- one and the odd one, in this order.
slow_pair : (newest : Parity) (m n : Me) (x y : Position) (p q : Point) (site : Option Position)
    (answer : Result Place PlaceFault)
    → IsEncodedFrom m x → IsEncodedFrom n y → parity_of (of_parity newest n m) ≡ Some Even
    → parity_of (of_parity newest m n) ≡ Some Odd → IsPlaceOf m x (Air p) → IsPlaceOf n y (Air q)
    → AreSlow air (of_parity newest q p) (of_parity newest p q) (of_parity newest y x) (of_parity newest x y)
    → HaveOneCount 360 (of_parity newest q p).lat_index (of_parity newest p q).lat_index
    → IsPlaceOfOneAddress m n site answer → answer ≡ Ok (Air q)
slow_pair Odd (kinds.Airborne o) (kinds.Airborne n) x y p q site answer first second even odd p_is q_is slow same here =
    let o_even : o.parity ≡ Even = same_some o.parity Even even in
    let n_odd : n.parity ≡ Odd = same_some n.parity Odd odd in
    let (found, decoded, is) = here.1 (differ o.parity n.parity o_even n_odd).0 in
    let there = subst (λ r. AirPairAnswer (pair_by_parity r o.code n.code) found) n_odd decoded in
    let tame = slow_is_tame air refl x y p q p_is.1 q_is.1 (p_is.0 ∙ o_even) (q_is.0 ∙ n_odd) slow in
    let law = tame_air_points_are_answered (pair_by_parity Odd o.code n.code) found p q there
    p_is.1.of_grid q_is.1.of_grid (has_code p o.code (code_of_place (kinds.Airborne o) x (Air p) first p_is))
    (has_code q n.code (code_of_place (kinds.Airborne n) y (Air q) second q_is)) tame in
    is ∙ one_count air Air Odd p q found same law
slow_pair Even (kinds.Airborne o) (kinds.Airborne n) x y p q site answer first second even odd p_is q_is slow same
    here =
    let n_even : n.parity ≡ Even = same_some n.parity Even even in
    let o_odd : o.parity ≡ Odd = same_some o.parity Odd odd in
    let (found, decoded, is) = here.1 (differ n.parity o.parity n_even o_odd).1 in
    let there = subst (λ r. AirPairAnswer (pair_by_parity r o.code n.code) found) n_even decoded in
    let tame = slow_is_tame air refl y x q p q_is.1 p_is.1 (q_is.0 ∙ n_even) (p_is.0 ∙ o_odd) slow in
    let law = tame_air_points_are_answered (pair_by_parity Even o.code n.code) found q p there
    q_is.1.of_grid p_is.1.of_grid (has_code q n.code (code_of_place (kinds.Airborne n) y (Air q) second q_is))
    (has_code p o.code (code_of_place (kinds.Airborne o) x (Air p) first p_is)) tame in
    is ∙ one_count air Air Even q p found same law
slow_pair newest (kinds.Airborne o) n x y p q site answer first second even odd p_is q_is slow same here = absurd q_is
slow_pair newest m n x y p q site answer first second even odd p_is q_is slow same here = absurd p_is

-- two messages that were encoded on the ground from slow positions near the site; the newer has this parity
slow_ground_pair : (newest : Parity) (m n : Me) (x y : Position) (p q : Point) (site : Position)
    (answer : Result Place PlaceFault)
    → IsEncodedFrom m x → IsEncodedFrom n y → parity_of (of_parity newest n m) ≡ Some Even
    → parity_of (of_parity newest m n) ≡ Some Odd → IsPlaceOf m x (Ground p) → IsPlaceOf n y (Ground q)
    → AreSlowPlaces (Some site) (Ground (of_parity newest q p)) (Ground (of_parity newest p q)) (of_parity newest y x)
    (of_parity newest x y)
    → HaveOneCount 90 (of_parity newest q p).lat_index (of_parity newest p q).lat_index
    → IsPlaceOfOneAddress m n (Some site) answer → answer ≡ Ok (Ground q)
slow_ground_pair Odd (kinds.Surface o) (kinds.Surface n) x y p q site answer first second even odd p_is q_is slow same
    here =
    let o_even : o.parity ≡ Even = same_some o.parity Even even in
    let n_odd : n.parity ≡ Odd = same_some n.parity Odd odd in
    let (found, decoded, is) = here.1 (differ o.parity n.parity o_even n_odd).0 in
    let there = subst (λ r. PairAnswerAt ground (pair_by_parity r o.code n.code) site found) n_odd decoded in
    let tame = slow_is_tame ground refl x y p q p_is.1 q_is.1 (p_is.0 ∙ o_even) (q_is.0 ∙ n_odd) slow.0 in
    let law = tame_ground_points_are_answered (pair_by_parity Odd o.code n.code) site found p q there
    p_is.1.of_grid q_is.1.of_grid (has_code p o.code (code_of_place (kinds.Surface o) x (Ground p) first p_is))
    (has_code q n.code (code_of_place (kinds.Surface n) y (Ground q) second q_is)) tame
    (rounds_near_site ground refl x site p p_is.1 slow.1) (rounds_near_site ground refl y site q q_is.1 slow.2) in
    is ∙ one_count ground Ground Odd p q found same law
slow_ground_pair Even (kinds.Surface o) (kinds.Surface n) x y p q site answer first second even odd p_is q_is slow same
    here =
    let n_even : n.parity ≡ Even = same_some n.parity Even even in
    let o_odd : o.parity ≡ Odd = same_some o.parity Odd odd in
    let (found, decoded, is) = here.1 (differ n.parity o.parity n_even o_odd).1 in
    let there = subst (λ r. PairAnswerAt ground (pair_by_parity r o.code n.code) site found) n_even decoded in
    let tame = slow_is_tame ground refl y x q p q_is.1 p_is.1 (q_is.0 ∙ n_even) (p_is.0 ∙ o_odd) slow.0 in
    let law = tame_ground_points_are_answered (pair_by_parity Even o.code n.code) site found q p there
    q_is.1.of_grid p_is.1.of_grid (has_code q n.code (code_of_place (kinds.Surface n) y (Ground q) second q_is))
    (has_code p o.code (code_of_place (kinds.Surface o) x (Ground p) first p_is)) tame
    (rounds_near_site ground refl y site q q_is.1 slow.1) (rounds_near_site ground refl x site p p_is.1 slow.2) in
    is ∙ one_count ground Ground Even q p found same law
slow_ground_pair newest (kinds.Surface o) n x y p q site answer first second even odd p_is q_is slow same here =
    absurd q_is
slow_ground_pair newest m n x y p q site answer first second even odd p_is q_is slow same here = absurd p_is

-- two messages with places are positions
positions_of : (m n : Me) (x y : Position) (p q : Place) → IsPlaceOf m x p → IsPlaceOf n y q
    → IsPosition m × IsPosition n
positions_of (kinds.Airborne a) (kinds.Airborne b) x y p q h k = (tt, tt)
positions_of (kinds.Airborne a) (kinds.Surface b) x y p q h k = (tt, tt)
positions_of (kinds.Airborne a) (kinds.Other b) x y p q h k = absurd k
positions_of (kinds.Surface a) (kinds.Airborne b) x y p q h k = (tt, tt)
positions_of (kinds.Surface a) (kinds.Surface b) x y p q h k = (tt, tt)
positions_of (kinds.Surface a) (kinds.Other b) x y p q h k = absurd k
positions_of (kinds.Other a) n x y p q h k = absurd h

-- an even parity and an odd one, in both orders
pub even_then_odd : (o n : Option Parity) → o ≡ Some Even → n ≡ Some Odd → are_even_and_odd o n ≡ true
even_then_odd o n even odd = ap (λ x. are_even_and_odd x n) even ∙ ap (are_even_and_odd (Some Even)) odd

odd_then_even : (o n : Option Parity) → o ≡ Some Odd → n ≡ Some Even → are_even_and_odd o n ≡ true
odd_then_even o n odd even = ap (λ x. are_even_and_odd x n) odd ∙ ap (are_even_and_odd (Some Odd)) even

-- The result for the newer arrival of a pair, if decoding the two can only give this, and no last fix changes it.
pub told : (window : ℕ) (site : Option Position) (a b : Arrival) (p q : Place) → AreTogether window a b
    → are_even_and_odd (parity_of (squitter_parts a.squitter).me) (parity_of (squitter_parts b.squitter).me) ≡ true
    → IsTruePlace a p → IsTruePlace b q → (only : Result Place PlaceFault)
    → ((answer : Result Place PlaceFault)
    → IsPlaceOfOneAddress (squitter_parts a.squitter).me (squitter_parts b.squitter).me site answer → answer ≡ only)
    → (heard : Heard) → heard ≡ heard_of_pair only
    → ((fix : Option Place) → IsHeardAfter fix b.squitter heard heard)
    → IsHeard window site (record { moment = a.moment; squitter = a.squitter; heard = Waiting }
    ∷ []) b.moment b.squitter heard
told window site a b p q together two h k only decoded heard heard_is stays =
    let m = (squitter_parts a.squitter).me in
    let n = (squitter_parts b.squitter).me in
    let entry : Entry = record { moment = a.moment; squitter = a.squitter; heard = Waiting } in
    let pairs_up : are_a_pair a.squitter b.squitter
    ≡ true = and_from (are_of_one_sender a.squitter b.squitter)
    (are_even_and_odd (parity_of m) (parity_of n)) together.sender two in
    let recent : leb b.moment (a.moment + window) ≡ true =
    le-leb b.moment (a.moment + window) together.not_after in
    let older : counterpart window (entry ∷ []) b.moment b.squitter ≡ Some a.squitter =
    ap (λ t. squitter_of (if_recent window b.moment (cond t (Some entry) None))) pairs_up
    ∙ ap (λ t. squitter_of (cond t (Some entry) None)) recent in
    let some = some_pair_place a.squitter b.squitter site in
    let here = some.1.same_address (positions_of m n a.position b.position p q h k)
    (sender_parts a.squitter b.squitter together.sender).0 in
    record {
      of_pair = heard;
      pair = subst (λ o. IsHeardOfPair site o b.squitter heard) (sym older)
          (some.0, some.1, heard_is ∙ sym (ap heard_of_pair (decoded some.0 here)));
      after = stays (last_fix window (entry ∷ []) b.moment b.squitter);
    }

-- the newer arrival of a pair gives the fix of a place if decoding the two can only give that place
fixed : (window : ℕ) (site : Option Position) (a b : Arrival) (p q : Place) → AreTogether window a b
    → are_even_and_odd (parity_of (squitter_parts a.squitter).me) (parity_of (squitter_parts b.squitter).me) ≡ true
    → IsTruePlace a p → IsTruePlace b q
    → ((answer : Result Place PlaceFault)
    → IsPlaceOfOneAddress (squitter_parts a.squitter).me (squitter_parts b.squitter).me site answer → answer ≡ Ok q)
    → IsHeard window site (record { moment = a.moment; squitter = a.squitter; heard = Waiting }
    ∷ []) b.moment b.squitter (Fix q)
fixed window site a b p q together two h k decoded =
    told window site a b p q together two h k (Ok q) decoded (Fix q) refl (λ fix. refl)

pub slow_pair_is_fixed : SlowPairIsFixed
slow_pair_is_fixed window site a b p q pair h k slow same =
    fixed window site a b (Air p) (Air q) pair.together (even_then_odd _ _ pair.even pair.odd) h k
    (λ answer. slow_pair Odd (squitter_parts a.squitter).me
    (squitter_parts b.squitter).me a.position b.position p q site answer a.encoded b.encoded pair.even pair.odd h k
    slow same)

pub slow_pair_is_fixed_on_ground : SlowPairIsFixedOnGround
slow_pair_is_fixed_on_ground window site a b p q pair h k slow same =
    let places : AreSlowPlaces (Some site) (Ground p) (Ground q) a.position b.position =
    (slow_pair_exactly window (Some site) a b (Ground p) (Ground q) pair h k).0 slow in
    fixed window (Some site) a b (Ground p) (Ground q) pair.together (even_then_odd _ _ pair.even pair.odd) h k
    (λ answer. slow_ground_pair Odd (squitter_parts a.squitter).me
    (squitter_parts b.squitter).me a.position b.position p q site answer a.encoded b.encoded pair.even pair.odd h k
    places same)

pub odd_first_is_fixed : OddFirstIsFixed
odd_first_is_fixed window site a b p q pair h k slow same =
    fixed window site a b (Air p) (Air q) (together_sym window b a pair.together)
    (odd_then_even _ _ pair.odd pair.even) h k
    (λ answer. slow_pair Even (squitter_parts a.squitter).me
    (squitter_parts b.squitter).me a.position b.position p q site answer a.encoded b.encoded pair.even pair.odd h k
    slow same)

pub odd_first_is_fixed_on_ground : OddFirstIsFixedOnGround
odd_first_is_fixed_on_ground window site a b p q pair h k slow same =
    let places : AreSlowPlaces (Some site) (Ground q) (Ground p) b.position a.position =
    (slow_pair_exactly window (Some site) b a (Ground q) (Ground p) pair k h).0 slow in
    fixed window (Some site) a b (Ground p) (Ground q) (together_sym window b a pair.together)
    (odd_then_even _ _ pair.odd pair.even) h k
    (λ answer. slow_ground_pair Even (squitter_parts a.squitter).me
    (squitter_parts b.squitter).me a.position b.position p q site answer a.encoded b.encoded pair.even pair.odd h k
    places same)
