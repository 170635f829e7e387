-- Restoring an address.
use Rattle.std.proofs.Common.{◌≡◌, ℕ, suc, ◌+◌, ◌<◌, ◌≤◌, Bool, true, false, not, ◌&&◌, eqb, leb, min, [], ◌∷◌, ◌++◌, length}
use Rattle.std.proofs.Common.{slice_get, Option, Some, None, IfSome, is_some, unwrap_or, refl, sym, ap, ◌∙◌, arith, subst, cond}
use Rattle.std.specs.List.{AllByRecursion, IsDistinct}
use Rattle.std.specs.Map.{keys_of, lookup}
use Rattle.std.proofs.lemmas.List.{length-append}
use Rattle.std.proofs.lemmas.Bool.{leb-true, false≢true, true≢false}
use Rattle.std.proofs.lemmas.Bool.Decides.{nat_tests}
use Rattle.sq_track.specs.declared.contact.Contact.{Contact}
use Rattle.sq_track.specs.Entries.{IsOrdered, IsOwned, IsSound, IsWithin}
use Rattle.sq_track.specs.Held.{Held}
use Rattle.sq_track.specs.Ordered.{moments_in, others_in}
use Rattle.sq_track.specs.Owned.{is_present_at}
use Rattle.sq_track.specs.Restoring.{CanBeRestored, CanFollow}
use Rattle.sq_track.proofs.Lists.Filters.{filter-cons_yes}
use Rattle.sq_track.proofs.Table.EntryLemmas.{Entries, IsOrdered-push, IsOrdered-to, each_before, each_pushed}
use Rattle.sq_track.proofs.Lists.Rings.{flip_test}
use Rattle.sq_track.proofs.Table.OwnLemmas.{own_within}

-- ---- the newest position

abbrev IsNewest : ℕ → Entries → Type 0
IsNewest newest es = (index : ℕ) → index + 1 ≡ length es
    → IfSome (slice_get (moments_in es) index) (λ entry. newest ≡ entry.1)

pub ordered_to_newest : (from to m newest : ℕ) (es : Entries) → IsOrdered from to es → IsNewest newest es → newest ≤ m
    → from ≤ m → IsOrdered from m es
ordered_to_newest from to m newest [] ordered is le lower = lower
ordered_to_newest from to m newest (e ∷ es) ordered is le lower = by from e es ordered is
  where
    by : (from : ℕ) (e : ℕ × Contact) (es : Entries) → IsOrdered from to (e ∷ es) → IsNewest newest (e ∷ es)
        → IsOrdered from m (e ∷ es)
    by from e [] ordered is = (ordered.0, omega (arith, is 0 refl, le))
    by from e (f ∷ fs) ordered is =
        (ordered.0, by e.1.moment f fs ordered.1 (λ index long. is (suc index) (omega (arith, long))))

pub newest_before : (m newest : ℕ) (es : Entries) → IsOrdered 0 m es → (es ≡ [] → newest ≡ 0) → IsNewest newest es
    → newest ≤ m
newest_before m newest [] ordered none is = omega (arith, none refl)
newest_before m newest (e ∷ es) ordered none is = by e es (each_before 0 m (e ∷ es) ordered) is
  where
    by : (e : ℕ × Contact) (es : Entries) → AllByRecursion (λ (x : ℕ × Contact). x.1.moment ≤ m) (e ∷ es)
        → IsNewest newest (e ∷ es) → newest ≤ m
    by e [] all is = omega (arith, all.0, is 0 refl)
    by e (f ∷ fs) all is = by f fs all.1 (λ index long. is (suc index) (omega (arith, long)))

-- ---- the entries and one more

others_absent : (a : ℕ) (es : Entries) → lookup (eqb a) es ≡ None → others_in a es ≡ es
others_absent a [] none = refl
others_absent a (e ∷ es) none = by (eqb a e.0) refl (others_absent a es)
  where
    by : (b : Bool) → eqb a e.0 ≡ b → (lookup (eqb a) es ≡ None → others_in a es ≡ es) → others_in a (e ∷ es) ≡ e ∷ es
    by true t rest = absurd (true≢false
        (ap is_some (sym (ap (λ b. cond b (Some e.1) (lookup (eqb a) es)) t) ∙ none)))
    by false t rest = filter-cons_yes (λ x. not (eqb x.0 a)) e es (grind (arith, nat_tests, t))
        ∙ ap (λ l. e ∷ l) (rest (sym (ap (λ b. cond b (Some e.1) (lookup (eqb a) es)) t) ∙ none))

pub put_back : (t : Held) (a : ℕ) (c : Contact) (new : Entries) → CanFollow t a c
    → new ≡ others_in a t.contacts ++ (a, c) ∷ [] → new ≡ t.contacts ++ (a, c) ∷ []
put_back t a c new can is = is ∙ ap (λ (es : Entries). es ++ (a, c) ∷ []) (others_absent a t.contacts can.absent)

-- the timestamp is at or before the last one
no_later : (w k : ℕ) (last : Option ℕ) → is_present_at w last k ≡ true → k ≤ unwrap_or last 0
no_later w k None is = absurd (false≢true is)
no_later w k (Some l) is = by (leb k l) refl
  where
    by : (b : Bool) → leb k l ≡ b → k ≤ l
    by true t = leb-true k l t
    by false f = absurd (false≢true (sym (ap (λ b. b && leb l (k + w)) f) ∙ is))

ordered_both : (from to m : ℕ) (es : Entries) → IsOrdered from to es → IsOrdered 0 m es → IsOrdered (min from m) m es
ordered_both from to m [] ordered later = omega (arith, min_le from m)
  where
    min_le : (x y : ℕ) → min x y ≤ y
    min_le x y = omega arith
ordered_both from to m (e ∷ es) ordered later = (omega (arith, ordered.0), later.1)

module _ (t : Held) (a : ℕ) (c : Contact) (can : CanFollow t a c) where
  abbrev more : Entries
  more = t.contacts ++ (a, c) ∷ []

  pub ordered_more : (since : ℕ) → IsOrdered since (unwrap_or t.last 0) t.contacts
      → IsOrdered (min since c.moment) (unwrap_or t.last 0) more
  ordered_more since ordered =
      IsOrdered-to (min since c.moment) c.moment (unwrap_or t.last 0) more
      (no_later t.window c.moment t.last can.present)
      (IsOrdered-push (min since c.moment) c.moment t.contacts (a, c) (omega arith)
      (ordered_both since (unwrap_or t.last 0) c.moment t.contacts ordered can.later))

  pub sound_more : IsSound t.limit t.window t.last t.contacts → IsSound t.limit t.window t.last more
  sound_more sound = record {
    ordered = IsOrdered-to 0 c.moment (unwrap_or t.last 0) more (no_later t.window c.moment t.last can.present)
        (IsOrdered-push 0 c.moment t.contacts (a, c) (omega arith) can.later);
    few = omega (arith, can.room, length-append t.contacts ((a, c) ∷ []));
    within = each_pushed (λ (e : ℕ × Contact). IsWithin e.1) t.contacts (a, c) sound.within
        (own_within a c can.own can.placed);
    owned = each_pushed (IsOwned t.window t.last) t.contacts (a, c) sound.owned
        (can.own, can.present, can.placed);
  }

pub none_of : (o : Option Contact) → is_some o ≡ false → o ≡ None
none_of None is = refl
none_of (Some c) is = absurd (true≢false is)

-- ---- the state of a tracker

all_middle : (P : ℕ × Contact → Type 0) (front back : Entries) (e : ℕ × Contact)
    → AllByRecursion P (front ++ e ∷ back) → P e
all_middle P [] back e all = all.0
all_middle P (x ∷ front) back e all = all_middle P front back e all.1

ordered_front : (from to : ℕ) (front back : Entries) (e : ℕ × Contact) → IsOrdered from to (front ++ e ∷ back)
    → IsOrdered from e.1.moment front
ordered_front from to [] back e ordered = ordered.0
ordered_front from to (x ∷ front) back e ordered = (ordered.0, ordered_front x.1.moment to front back e ordered.1)

absent_front : (front back : Entries) (e : ℕ × Contact) → IsDistinct eqb (keys_of (front ++ e ∷ back))
    → lookup (eqb e.0) front ≡ None
unfolding IsDistinct
absent_front [] back e d = refl
absent_front (x ∷ front) back e d =
    ap (λ b. cond b (Some x.1) (lookup (eqb e.0) front)) (flip_test x.0 e.0 (middle front d.0))
    ∙ absent_front front back e d.1
  where
    middle : (es : Entries) → AllByRecursion (λ k. eqb x.0 k ≡ false) (keys_of (es ++ e ∷ back))
        → eqb x.0 e.0 ≡ false
    middle [] all = all.0
    middle (y ∷ es) all = middle es all.1

pub restored_each : (t : Held) → IsSound t.limit t.window t.last t.contacts → IsDistinct eqb (keys_of t.contacts)
    → CanBeRestored t
restored_each t sound d front back a c is =
    let owned = all_middle (IsOwned t.window t.last) front back (a, c)
    (subst (AllByRecursion (IsOwned t.window t.last)) is sound.owned) in
    record {
      room = omega (arith, sound.few, ap length is, length-append front ((a, c) ∷ back), longer back);
      absent = absent_front front back (a, c) (subst (λ (es : Entries). IsDistinct eqb (keys_of es)) is d);
      own = owned.0;
      placed = owned.2;
      present = owned.1;
      later = ordered_front 0 (unwrap_or t.last 0) front back (a, c)
          (subst (IsOrdered 0 (unwrap_or t.last 0)) is sound.ordered);
    }
  where
    longer : (es : Entries) → 0 < length ((a, c) ∷ es)
    longer es = omega arith
