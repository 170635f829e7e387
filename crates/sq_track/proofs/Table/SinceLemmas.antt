-- The entries since a timestamp, the last heard first.
use Rattle.std.proofs.Common.{◌≡◌, ℕ, zero, suc, ◌<◌, ◌≤◌, Bool, true, false, leb, List, [], ◌∷◌, ◌++◌, filter, reverse, slice_get}
use Rattle.std.proofs.Common.{Option, Some, None, cond, is_some, refl, sym, ap, ◌∙◌, arith, subst}
use Rattle.std.proofs.lemmas.Bool.{false≢true}
use Rattle.std.proofs.lemmas.Bool.Decides.{nat_tests}
use Rattle.sq_track.specs.declared.contact.Contact.{Contact}
use Rattle.sq_track.specs.Entries.{IsOrdered}
use Rattle.sq_track.specs.Held.{later}
use Rattle.sq_track.proofs.Lists.Filters.{filter-cons_yes, filter-cons_no, reverse-cons}

abbrev Entries : Type 0
Entries = List (ℕ × Contact)

abbrev is_later : ℕ → ℕ × Contact → Bool
is_later since e = leb since e.1.moment

-- the newest positions are in order from `to` down to `from`
abbrev IsFalling : (from to : ℕ) → Entries → Type 0
IsFalling from to [] = from ≤ to
IsFalling from to (e ∷ es) = (e.1.moment ≤ to) × IsFalling from e.1.moment es

falls_more : (from to : ℕ) (es : Entries) (e : ℕ × Contact) → IsFalling e.1.moment to es → from ≤ e.1.moment
    → IsFalling from to (es ++ e ∷ [])
falls_more from to [] e falls low = (falls, low)
falls_more from to (x ∷ es) e falls low = (falls.0, falls_more from x.1.moment es e falls.1 low)

falls : (from to : ℕ) (es : Entries) → IsOrdered from to es → IsFalling from to (reverse es)
falls from to [] ordered = ordered
falls from to (e ∷ es) ordered =
    subst (IsFalling from to) (sym (reverse-cons e es))
    (falls_more from to (reverse es) e (falls e.1.moment to es ordered.1) ordered.0)

-- below the timestamp there is no later entry
none_later : (since from to : ℕ) (es : Entries) → IsFalling from to es → to < since
    → (filter (is_later since) es ≡ []) × ((k : ℕ) → later since (slice_get es k) ≡ None)
none_later since from to [] down low = (refl, λ k. refl)
none_later since from to (e ∷ es) down low =
    let early : is_later since e ≡ false = grind (arith, nat_tests, low, down.0) in
    let rest = none_later since from e.1.moment es down.1 (omega (arith, low, down.0)) in
    (filter-cons_no (is_later since) e es early ∙ rest.0, at early rest.1)
  where
    at : is_later since e ≡ false → ((k : ℕ) → later since (slice_get es k) ≡ None)
        → (k : ℕ) → later since (slice_get (e ∷ es) k) ≡ None
    at early rest zero = ap (λ b. cond b (Some e) None) early
    at early rest (suc k) = rest k

falling_at : (since from to : ℕ) (es : Entries) → IsFalling from to es → (k : ℕ)
    → slice_get (filter (is_later since) es) k ≡ later since (slice_get es k)
falling_at since from to [] down k = refl
falling_at since from to (e ∷ es) down k =
    by (is_later since e) refl (falling_at since from e.1.moment es down.1) k
  where
    by : (b : Bool) → is_later since e ≡ b
        → ((k : ℕ) → slice_get (filter (is_later since) es) k ≡ later since (slice_get es k)) → (k : ℕ)
        → slice_get (filter (is_later since) (e ∷ es)) k ≡ later since (slice_get (e ∷ es) k)
    by true is rest zero =
        ap (λ l. slice_get l 0) (filter-cons_yes (is_later since) e es is)
        ∙ sym (ap (λ b. cond b (Some e) None) is)
    by true is rest (suc k) =
        ap (λ l. slice_get l (suc k)) (filter-cons_yes (is_later since) e es is) ∙ rest k
    by false is rest k =
        let none =
        none_later since from e.1.moment (e ∷ es) (omega arith, down.1) (grind (arith, nat_tests, is)) in
        ap (λ l. slice_get l k) none.0 ∙ sym (none.1 k)

-- the entry at an index, the last heard first, if it is late enough
pub since_at : (since from to : ℕ) (es : Entries) → IsOrdered from to es → (k : ℕ)
    → slice_get (filter (is_later since) (reverse es)) k ≡ later since (slice_get (reverse es) k)
since_at since from to es ordered k = falling_at since from to (reverse es) (falls from to es ordered) k

-- an entry that is late enough is there
pub later_is : (since : ℕ) (o : Option (ℕ × Contact)) (e : ℕ × Contact) → later since o ≡ Some e → o ≡ Some e
later_is since None e is = absurd (false≢true (ap is_some is))
later_is since (Some x) e is = by (is_later since x) is
  where
    by : (b : Bool) → cond b (Some x) None ≡ Some e → Some x ≡ Some e
    by true is = is
    by false is = absurd (false≢true (ap is_some is))

-- behind an index without an element there is none
pub nothing_behind : {X : Type 0} (xs : List X) (k n : ℕ) → slice_get xs k ≡ None → k ≤ n → slice_get xs n ≡ None
nothing_behind [] k n none le = refl
nothing_behind (x ∷ xs) zero n none le = absurd (false≢true (sym (ap is_some none)))
nothing_behind (x ∷ xs) (suc k) zero none le = absurd (omega (arith, le))
nothing_behind (x ∷ xs) (suc k) (suc n) none le = nothing_behind xs k n none (omega (arith, le))
