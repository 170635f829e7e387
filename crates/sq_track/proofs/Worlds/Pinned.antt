-- The exact meaning of the definitions about worlds.
use Rattle.std.proofs.Common.{◌≡◌, ◌≢◌, ◌∙◌, ◌⊎◌, inl, inr, ℕ, Bool, true, false, [], ◌∷◌, Contains, Option, refl, sym}
use Rattle.std.proofs.Common.{subst, subst₂, ◌*◌, ℤ, pos, neg_ℤ, ◌+ℤ◌, ◌-ℤ◌, ◌*ℤ◌, arith}
use Rattle.std.proofs.lemmas.Int.{ints}
use Rattle.sq_angle.specs.Angle.{degrees}
use Rattle.sq_angle.specs.Fraction.{Fraction, ◌≃◌}
use Rattle.sq_angle.specs.Position.{lon_of}
use Rattle.sq_angle.specs.Scale.{scales}
use Rattle.sq_cpr.specs.Close.{difference}
use Rattle.std.proofs.lemmas.Bool.{eq-eqb, eqb-true}
use Rattle.std.proofs.lemmas.List.Elements.{All-contains, All-from_recursion}
use Rattle.sq_angle.specs.declared.position.Position.{Position}
use Rattle.sq_message.specs.declared.place.Place.{Place}
use Rattle.sq_message.specs.declared.squitter.Me.TheVariants as kinds
use Rattle.sq_message.specs.Parts.{squitter_parts}
use Rattle.sq_track.specs.History.{Entry, parity_of}
use Rattle.sq_track.specs.Replies.{is_of_address}
use Rattle.sq_track.specs.Worlds.{Arrival, IsTruePlace}
use Rattle.sq_track.specs.Tame.{AreNearPlaces, ArePairTogether, AreTamePlaces, IsTame}
use Rattle.sq_message.specs.declared.place.Place.TheVariants.{Air, Ground}
use Rattle.sq_track.specs.Standing.{AreOneAngle, AreOnePlace}
use Rattle.sq_track.specs.Pinned.{SomeArrival, OtherIsEncoded, PlacesExactly, OneParityIsSlow, TamePairExactly}
use Rattle.sq_track.specs.Pinned.{OnePositionStands, OfAddressExactly, SaidExactly, MemoryExactly, TrueOfOne}
use Rattle.sq_track.specs.Pinned.{OnePlaceExactly, OnePlaceAt180, StandsExactly, TameForFollowingPairExactly}
use Rattle.sq_track.proofs.Lists.Filters.{filter-cons_yes, filter-cons_no}
use Rattle.sq_track.proofs.Worlds.ByPairs.{Nears, Pairs, each_two, in_pair, is_one_of, odd_is_even, parity_at, pairs_itself}
use Rattle.sq_track.proofs.Worlds.Standing.{near_itself, one_with_itself}
use Rattle.sq_track.proofs.Worlds.Places.{one_true_place}

pub some_arrival : SomeArrival
some_arrival moment squitter position encoded =
    (record { moment = moment; squitter = squitter; position = position; encoded = encoded }, refl, refl, refl)

pub other_is_encoded : OtherIsEncoded
other_is_encoded (kinds.Airborne a) x none = absurd (none tt)
other_is_encoded (kinds.Surface a) x none = absurd (none tt)
other_is_encoded (kinds.Other a) x none = tt

pub places_exactly : PlacesExactly
places_exactly = record {
  near_no_site = λ x. tt;
  near_a_site = λ site x. (λ h. h, λ h. h);
  sent_on_ground = λ site x surface. (λ h. h, λ h. h);
  sent_in_air = λ site x airborne. tt;
  sent_of_kind_other = λ site x other. tt;
  point_near_no_site = λ p. tt;
  point_near_a_site = λ site p. (λ h. h, λ h. h);
  near_in_air = λ p q. (λ h. h, λ h. h);
  near_on_ground = λ p q. (λ h. h, λ h. h);
  slow_in_air = λ site p q x y. (λ h. h, λ h. h);
  slow_on_ground = λ p q x y. (λ h. h.0, λ h. (h, tt, tt));
  slow_at_a_site = λ site p q x y. (λ h. h, λ h. h);
  following_in_air = λ p q x y. (λ h. h, λ h. h);
  following_on_ground = λ p q x y. (λ h. h, λ h. h);
  tame_in_air = λ site p q. (λ h. h, λ h. h);
  tame_on_ground = λ p q. (λ h. h.0, λ h. (h, tt, tt));
  tame_at_a_site = λ site p q. (λ h. h, λ h. h);
}

pub one_parity_is_slow : OneParityIsSlow
one_parity_is_slow window site a b same c d c_in d_in =
    each_two (Pairs window site) a b c d (pairs_itself window site a)
    (λ pair. odd_is_even (parity_of (squitter_parts b.squitter).me) (sym same ∙ pair.even) pair.odd)
    (λ pair. odd_is_even (parity_of (squitter_parts b.squitter).me) pair.even (sym same ∙ pair.odd))
    (pairs_itself window site b) (is_one_of a b c c_in) (is_one_of a b d d_in)

-- two tame places make a tame world of two arrivals
tame_pair : (window : ℕ) (site : Option Position) (a b : Arrival) (p q : Place) → ArePairTogether window a b
    → IsTruePlace a p → IsTruePlace b q → AreTamePlaces site p q → IsTame window site (a ∷ b ∷ [])
tame_pair window site a b p q pair h k tame c d c_in d_in other p' q' h' k' =
    by other p' q' h' k' (is_one_of a b c c_in) (is_one_of a b d d_in)
  where
    by : ArePairTogether window c d → (p' q' : Place) → IsTruePlace c p' → IsTruePlace d q'
        → (c ≡ a) ⊎ (c ≡ b) → (d ≡ a) ⊎ (d ≡ b) → AreTamePlaces site p' q'
    by other p' q' h' k' (inr c_is) d_is =
        odd_is_even (parity_of (squitter_parts b.squitter).me) (parity_at c_is other.even) pair.odd
    by other p' q' h' k' (inl c_is) (inl d_is) =
        odd_is_even (parity_of (squitter_parts a.squitter).me) pair.even (parity_at d_is other.odd)
    by other p' q' h' k' (inl c_is) (inr d_is) =
        let p_same : p ≡ p' = one_true_place a p p' h (subst (λ x. IsTruePlace x p') c_is h') in
        let q_same : q ≡ q' = one_true_place b q q' k (subst (λ x. IsTruePlace x q') d_is k') in
        subst (λ x. AreTamePlaces site p' x) q_same (subst (λ x. AreTamePlaces site x q) p_same tame)

pub tame_pair_exactly : TamePairExactly
tame_pair_exactly window site a b p q pair h k =
    (λ tame. tame a b (in_pair a b).0 (in_pair a b).1.0 pair p q h k, tame_pair window site a b p q pair h k)

nears_itself : (window : ℕ) (a : Arrival) → Nears window a a
nears_itself window a together p q h k = subst (AreNearPlaces p) (one_true_place a p q h k) (near_itself a p h)

-- places are near one another in either order
near_back : (p q : Place) → AreNearPlaces p q → AreNearPlaces q p
near_back (Air p) (Air q) near = (near.1, near.0)
near_back (Ground p) (Ground q) near = (near.1, near.0)
near_back (Air p) (Ground q) near = near
near_back (Ground p) (Air q) near = near

pub tame_for_following_pair_exactly : TameForFollowingPairExactly
tame_for_following_pair_exactly window a b p q together h k = (
  λ tame. tame a b (in_pair a b).0 (in_pair a b).1.0 together p q h k,
  λ near c d c_in d_in.
      each_two (Nears window) a b c d (nears_itself window a) (λ t p' q' h' k'. at p' q' near h' k')
      (λ t q' p' k' h'. near_back p' q' (at p' q' near h' k')) (nears_itself window b) (is_one_of a b c c_in)
      (is_one_of a b d d_in),
)
  where
    at : (p' q' : Place) → AreNearPlaces p q → IsTruePlace a p' → IsTruePlace b q' → AreNearPlaces p' q'
    at p' q' near h' k' =
        subst (AreNearPlaces p') (one_true_place b q q' k k')
        (subst (λ x. AreNearPlaces x q) (one_true_place a p p' h h') near)

-- after these turns: the definition by a difference, and the law by a sum
turned : (x y : Fraction) (turns : ℤ)
    → (pos y.den *ℤ (pos 1 *ℤ x.num +ℤ pos x.den *ℤ (pos 360 *ℤ turns)) -ℤ pos (x.den * 1) *ℤ y.num)
    ≡ (difference 360 x y turns).num
turned x y turns = simp scales (omega (arith, ints))

pub one_place_exactly : OnePlaceExactly
one_place_exactly x y = (
  λ one. (
    one.latitudes,
    (
      one.turns,
      omega (arith, ints, one.longitudes, turned (degrees (lon_of x)) (degrees (lon_of y)) one.turns),
    ),
  ),
  λ h. record {
    latitudes = h.0;
    turns = h.1.0;
    longitudes = omega (arith, ints, h.1.1, turned (degrees (lon_of x)) (degrees (lon_of y)) h.1.0);
  },
)

pub one_place_at_180 : OnePlaceAt180
one_place_at_180 x y x_lat x_lon y_lat y_lon = record {
  latitudes = subst₂ (λ a b. a ≃ b) (sym x_lat) (sym y_lat) refl;
  turns = neg_ℤ (pos 1);
  longitudes = subst₂ (AreOneAngle (neg_ℤ (pos 1))) (sym x_lon) (sym y_lon) refl;
}

pub stands_exactly : StandsExactly
stands_exactly world = (λ h. h, λ h. h)

pub one_position_stands : OnePositionStands
one_position_stands world one a b a_in b_in sender =
    subst (AreOnePlace a.position) (one a b a_in b_in sender) (one_with_itself a.position)

not_own : (address : ℕ) (entry : Entry) → (squitter_parts entry.squitter).address ≢ address
    → is_of_address address entry ≡ false
not_own address entry differ = by (is_of_address address entry) refl
  where
    by : (b : Bool) → is_of_address address entry ≡ b → b ≡ false
    by true e = absurd (differ (eqb-true (squitter_parts entry.squitter).address address e))
    by false e = refl

pub of_address_exactly : OfAddressExactly
of_address_exactly = record {
  none = λ address. refl;
  own = λ address entry history same. filter-cons_yes (is_of_address address) entry history
      (eq-eqb (squitter_parts entry.squitter).address address same);
  other = λ address entry history differ. filter-cons_no (is_of_address address) entry history
      (not_own address entry differ);
}

pub said_exactly : SaidExactly
said_exactly = record {
  fix = λ a place. (λ h. h, λ h. h);
  far = λ a h. h;
  fix_too = λ a place. (λ h. h, λ h. h);
  followed = λ a place. (λ h. h, λ h. h);
  far_too = λ a h. h;
  heard = λ a heard. (λ h. h, λ h. h);
  heard_too = λ a heard. (λ h. h, λ h. h);
}

pub memory_exactly : MemoryExactly
memory_exactly s h m q = (λ k. k, λ k. k)

each_of_one : (P : Arrival → Type 0) (a b : Arrival) → P a → Contains (a ∷ []) b → P b
each_of_one P a b h there = All-contains P (a ∷ []) b (All-from_recursion P (a ∷ []) (h, tt)) there

pub true_of_one : TrueOfOne
true_of_one t world history a heard all stands arises slow following there =
    (all world (a ∷ []) history stands arises slow following (λ b among. each_of_one (Contains world) a b there among)
    refl).0
