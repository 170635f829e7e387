-- A world is slow or tame exactly if any two of its arrivals are.
use Rattle.std.proofs.Common.{◌≡◌, ◌≢◌, ◌↔◌, ◌∙◌, ◌⊎◌, inl, inr, ℕ, ◌+◌, ◌<◌, arith, [], ◌∷◌, Option, Some, Contains, refl}
use Rattle.std.proofs.Common.{sym, ap, subst}
use Rattle.std.specs.List.{AllByRecursion}
use Rattle.std.proofs.lemmas.List.Elements.{All-contains, All-contains_itself, All-from_recursion, recursion_from_All}
use Rattle.sq_angle.specs.declared.position.Position.{Position}
use Rattle.sq_zones.specs.declared.parity.Parity.{Parity}
use Rattle.sq_zones.specs.declared.parity.Parity.TheVariants.{Even, Odd}
use Rattle.sq_message.specs.declared.place.Place.{Place}
use Rattle.sq_message.specs.Parts.{squitter_parts}
use Rattle.sq_track.specs.History.{Entry, parity_of}
use Rattle.sq_track.specs.Worlds.{Arrival, World, IsTruePlace, IsEntryOf}
use Rattle.sq_track.specs.Tame.{AreTogether, ArePairTogether, AreNearPlaces, AreSlowPlaces, AreSlowToFollow}
use Rattle.sq_track.specs.Tame.{AreTamePlaces}
use Rattle.sq_track.specs.Laws.{ApartIsSlow, ArisesByArrivals, SlowByPairs, SlowForFollowingByPairs}
use Rattle.sq_track.specs.Laws.{SlowForFollowingPairExactly, SlowPairExactly}
use Rattle.sq_track.specs.Pinned.{TameByPairs, TameForFollowingByPairs}
use Rattle.sq_track.proofs.Histories.Entries.{each_arrived, sender_parts, together_sym}
use Rattle.sq_track.proofs.Lists.Found.{same_some}
use Rattle.sq_track.proofs.Worlds.Standing.{followed_still, one_with_itself, own_kind}
use Rattle.sq_track.proofs.Worlds.Places.{one_true_place}

-- the arrivals of a pair
pub in_pair : (a b : Arrival) → AllByRecursion (Contains (a ∷ b ∷ [])) (a ∷ b ∷ [])
in_pair a b = recursion_from_All (Contains (a ∷ b ∷ [])) (a ∷ b ∷ []) (All-contains_itself (a ∷ b ∷ []))

each_of_pair : (P : Arrival → Type 0) (a b c : Arrival) → P a → P b → Contains (a ∷ b ∷ []) c → P c
each_of_pair P a b c h k there = All-contains P (a ∷ b ∷ []) c (All-from_recursion P (a ∷ b ∷ []) (h, (k, tt))) there

pub is_one_of : (a b c : Arrival) → Contains (a ∷ b ∷ []) c → (c ≡ a) ⊎ (c ≡ b)
is_one_of a b c there = each_of_pair (λ x. (x ≡ a) ⊎ (x ≡ b)) a b c (inl refl) (inr refl) there

-- a property of any two arrivals of a world holds exactly if it holds in each pair of them
by_pairs : (P : Arrival → Arrival → Type 0) (world : World)
    → ((a b : Arrival) → Contains world a → Contains world b → P a b)
    ↔ ((a b : Arrival) → Contains world a → Contains world b
    → (c d : Arrival) → Contains (a ∷ b ∷ []) c → Contains (a ∷ b ∷ []) d → P c d)
by_pairs P world = (
  λ each a b a_in b_in c d c_in d_in. each c d (each_of_pair (Contains world) a b c a_in b_in c_in)
      (each_of_pair (Contains world) a b d a_in b_in d_in),
  λ each a b a_in b_in. each a b a_in b_in a b (in_pair a b).0 (in_pair a b).1.0,
)

-- two arrivals, in this order, are slow to follow if they come together
abbrev Follows : ℕ → Arrival → Arrival → Type 0
Follows window c d = AreTogether window c d → (p q : Place) → IsTruePlace c p → IsTruePlace d q
    → AreSlowToFollow p q c.position d.position

-- an even and an odd arrival are slow if they come together
abbrev pub Pairs : ℕ → Option Position → Arrival → Arrival → Type 0
Pairs window site c d = ArePairTogether window c d → (p q : Place) → IsTruePlace c p → IsTruePlace d q
    → AreSlowPlaces site p q c.position d.position

-- an even and an odd arrival are tame if they come together
abbrev Tames : ℕ → Option Position → Arrival → Arrival → Type 0
Tames window site c d = ArePairTogether window c d → (p q : Place) → IsTruePlace c p → IsTruePlace d q
    → AreTamePlaces site p q

-- two arrivals are near one another if they come together
abbrev pub Nears : ℕ → Arrival → Arrival → Type 0
Nears window c d = AreTogether window c d → (p q : Place) → IsTruePlace c p → IsTruePlace d q → AreNearPlaces p q

pub slow_by_pairs : SlowByPairs
slow_by_pairs window site world = by_pairs (Pairs window site) world

pub slow_for_following_by_pairs : SlowForFollowingByPairs
slow_for_following_by_pairs window world = by_pairs (Follows window) world

pub tame_by_pairs : TameByPairs
tame_by_pairs window site world = by_pairs (Tames window site) world

pub tame_for_following_by_pairs : TameForFollowingByPairs
tame_for_following_by_pairs window world = by_pairs (Nears window) world

pub odd_is_even : {A : Type 0} (o : Option Parity) → o ≡ Some Even → o ≡ Some Odd → A
odd_is_even o even odd = let bad : ◌≡◌ {A = Parity} Even Odd = same_some Even Odd (sym even ∙ odd) in absurd (cc bad)

pub parity_at : {a c : Arrival} {p : Option Parity} → c ≡ a → parity_of (squitter_parts c.squitter).me ≡ p
    → parity_of (squitter_parts a.squitter).me ≡ p
parity_at same e = sym (ap (λ (x : Arrival). parity_of (squitter_parts x.squitter).me) same) ∙ e

pub slow_pair_exactly : SlowPairExactly
slow_pair_exactly window site a b p q pair h k = (
  λ slow. slow a b (in_pair a b).0 (in_pair a b).1.0 pair p q h k,
  λ slow c d c_in d_in other p' q' h' k'. by slow c d other p' q' h' k' (is_one_of a b c c_in) (is_one_of a b d d_in),
)
  where
    by : AreSlowPlaces site p q a.position b.position → (c d : Arrival) → ArePairTogether window c d → (p' q' : Place)
        → IsTruePlace c p' → IsTruePlace d q'
        → (c ≡ a) ⊎ (c ≡ b) → (d ≡ a) ⊎ (d ≡ b) → AreSlowPlaces site p' q' c.position d.position
    by slow c d other p' q' h' k' (inr c_is) d_is =
        odd_is_even (parity_of (squitter_parts b.squitter).me) (parity_at c_is other.even) pair.odd
    by slow c d other p' q' h' k' (inl c_is) (inl d_is) =
        odd_is_even (parity_of (squitter_parts a.squitter).me) pair.even (parity_at d_is other.odd)
    by slow c d other p' q' h' k' (inl c_is) (inr d_is) =
        let p_same : p ≡ p' = one_true_place a p p' h (subst (λ x. IsTruePlace x p') c_is h') in
        let q_same : q ≡ q' = one_true_place b q q' k (subst (λ x. IsTruePlace x q') d_is k') in
        subst (λ x. AreSlowPlaces site p' q' x.position d.position) (sym c_is)
        (subst (λ x. AreSlowPlaces site p' q' a.position x.position) (sym d_is)
        (subst (λ x. AreSlowPlaces site p' x a.position b.position) q_same
        (subst (λ x. AreSlowPlaces site x q a.position b.position) p_same slow)))

-- an arrival and itself are slow to follow
with_itself : (a : Arrival) (p q : Place) → IsTruePlace a p → IsTruePlace a q
    → AreSlowToFollow p q a.position a.position
with_itself a p q h k =
    let m = (squitter_parts a.squitter).me in
    followed_still m m a.position a.position p q (own_kind m a.position p h) h k (one_with_itself a.position)

-- a property of any two arrivals of a pair
pub each_two : (P : Arrival → Arrival → Type 0) (a b c d : Arrival) → P a a → P a b → P b a → P b b → (c ≡ a) ⊎ (c ≡ b)
    → (d ≡ a) ⊎ (d ≡ b) → P c d
each_two P a b c d aa ab ba bb (inl e) (inl f) = subst (λ x. P x d) (sym e) (subst (P a) (sym f) aa)
each_two P a b c d aa ab ba bb (inl e) (inr f) = subst (λ x. P x d) (sym e) (subst (P a) (sym f) ab)
each_two P a b c d aa ab ba bb (inr e) (inl f) = subst (λ x. P x d) (sym e) (subst (P b) (sym f) ba)
each_two P a b c d aa ab ba bb (inr e) (inr f) = subst (λ x. P x d) (sym e) (subst (P b) (sym f) bb)

follows_itself : (window : ℕ) (a : Arrival) → Follows window a a
follows_itself window a together p q h k = with_itself a p q h k

pub pairs_itself : (window : ℕ) (site : Option Position) (a : Arrival) → Pairs window site a a
pairs_itself window site a pair = odd_is_even (parity_of (squitter_parts a.squitter).me) pair.even pair.odd

pub slow_for_following_pair_exactly : SlowForFollowingPairExactly
slow_for_following_pair_exactly window a b p q together h k = (
  λ slow. (
    slow a b (in_pair a b).0 (in_pair a b).1.0 together p q h k,
    slow b a (in_pair a b).1.0 (in_pair a b).0 (together_sym window a b together) q p k h,
  ),
  λ slow c d c_in d_in.
      each_two (Follows window) a b c d (follows_itself window a)
      (λ t p' q' h' k'. subst (λ x. AreSlowToFollow p' x a.position b.position) (one_true_place b q q' k k')
      (subst (λ x. AreSlowToFollow x q a.position b.position) (one_true_place a p p' h h') slow.0))
      (λ t q' p' k' h'. subst (λ x. AreSlowToFollow q' x b.position a.position) (one_true_place a p p' h h')
      (subst (λ x. AreSlowToFollow x p b.position a.position) (one_true_place b q q' k k') slow.1))
      (follows_itself window b) (is_one_of a b c c_in) (is_one_of a b d d_in),
)

-- arrivals further apart than the window, or of two addresses, do not come together
never_together : {A : Type 0} (window : ℕ) (a b : Arrival)
    → (a.moment + window < b.moment) ⊎ ((squitter_parts a.squitter).address ≢ (squitter_parts b.squitter).address)
    → AreTogether window a b → A
never_together window a b (inl apart) together = absurd (omega (arith, apart, together.not_after))
never_together window a b (inr differ) together = absurd (differ (sender_parts a.squitter b.squitter together.sender).0)

pub apart_is_slow : ApartIsSlow
apart_is_slow window site a b apart = (
  λ c d c_in d_in.
      each_two (Pairs window site) a b c d (pairs_itself window site a)
      (λ pair. never_together window a b apart pair.together)
      (λ pair. never_together window a b apart (together_sym window b a pair.together)) (pairs_itself window site b)
      (is_one_of a b c c_in) (is_one_of a b d d_in),
  λ c d c_in d_in.
      each_two (Follows window) a b c d (follows_itself window a) (λ t. never_together window a b apart t)
      (λ t. never_together window a b apart (together_sym window b a t)) (follows_itself window b)
      (is_one_of a b c c_in) (is_one_of a b d d_in),
)

pub arises_by_arrivals : ArisesByArrivals
arises_by_arrivals world = (
  λ entry there. All-contains (λ (e : Entry). (arrival : Arrival) × Contains world arrival
      × IsEntryOf arrival e) [] entry
      (All-from_recursion (λ (e : Entry). (arrival : Arrival) × Contains world arrival
      × IsEntryOf arrival e) [] tt) there,
  λ history arrival heard a_in arises entry there.
      let P = λ (e : Entry). (x : Arrival) × Contains world x × IsEntryOf x e in
      let now : Entry = record { moment = arrival.moment; squitter = arrival.squitter; heard = heard } in
      All-contains P (now ∷ history) entry
      (All-from_recursion P (now ∷ history)
      ((arrival, a_in, record { moment = refl; squitter = refl }), each_arrived world history arises)) there,
)
