-- Contacts in the order of their timestamps.
use Rattle.std.proofs.Common.{subst, ◌≡◌, ℕ, ◌+◌, ◌≤◌, ◌<◌, Bool, true, false, not, cond, eqb, leb, List, [], ◌∷◌}
use Rattle.std.proofs.Common.{length, filter, slice_get, Option, Some, None, refl, sym, ap, ◌∙◌, arith, is_some}
use Rattle.std.proofs.Common.{unwrap_or}
use Rattle.std.specs.List.{IsDistinct, AllByRecursion}
use Rattle.std.specs.Map.{keys_of, lookup}
use Rattle.std.proofs.lemmas.Bool.{true≢false, false≢true, le-leb, leb-true, lt-leb}
use Rattle.std.proofs.lemmas.Bool.Decides.{nat_tests}
use Rattle.sq_track.proofs.Lists.Filters.{filter-cons_yes, filter-cons_no, length-filter_le}
use Rattle.sq_track.specs.declared.contact.Contact.{Contact}
use Rattle.sq_track.specs.Ordered.{moments_in, others_in}
use Rattle.sq_track.specs.Entries.{is_fresh, fresh, fresh_entry, IsOrdered}
use Rattle.sq_track.proofs.Table.EntryLemmas.{count_fresh, one_if}

abbrev Entries : Type 0
Entries = List (ℕ × Contact)

-- the first entry, by its address and the timestamp of its newest position
pub first_entry : (es : Entries) (a t : ℕ) → Some (a, t) ≡ slice_get (moments_in es) 0
    → (c : Contact) × (Some (a, c) ≡ slice_get es 0) × (c.moment ≡ t)
first_entry [] a t at = absurd (false≢true (sym (ap is_some at)))
first_entry (e ∷ es) a t at =
    let same : (a, t) ≡ (e.0, e.1.moment) = ap (λ o. unwrap_or o (a, t)) at in
    (e.1, ap (λ (p : ℕ × ℕ). Some (p.0, e.1)) same, ap (λ (p : ℕ × ℕ). p.1) (sym same))

pub no_first : (es : Entries) → None ≡ slice_get (moments_in es) 0 → None ≡ slice_get es 0
no_first [] at = refl
no_first (e ∷ es) at = absurd (false≢true (ap is_some at))

-- if the order starts from a fresh timestamp, all entries are fresh
pub all_fresh : (w m from to : ℕ) (es : Entries) → IsOrdered from to es → m ≤ from + w
    → filter (fresh_entry w m) es ≡ es
all_fresh w m from to [] o le = refl
all_fresh w m from to (e ∷ es) o le =
    let later : m ≤ e.1.moment + w = omega (arith, o.0) in
    filter-cons_yes (fresh_entry w m) e es (le-leb m (e.1.moment + w) later)
    ∙ ap (λ l. e ∷ l) (all_fresh w m e.1.moment to es o.1 later)

same_entry : (e f : ℕ × Contact) → Some e ≡ Some f → e ≡ f
same_entry e f h = ap (λ o. unwrap_or o e) h

-- if the first entry is fresh, all are
pub all_kept : (w m from to : ℕ) (es : Entries) (e : ℕ × Contact) → IsOrdered from to es → Some e ≡ slice_get es 0
    → is_fresh w m e.1 ≡ true
    → filter (fresh_entry w m) es ≡ es
all_kept w m from to [] e o at f = refl
all_kept w m from to (x ∷ es) e o at f =
    let here : is_fresh w m x.1 ≡ true = ap (λ (y : ℕ × Contact). is_fresh w m y.1) (sym (same_entry e x at)) ∙ f in
    filter-cons_yes (fresh_entry w m) x es here
    ∙ ap (λ l. x ∷ l) (all_fresh w m x.1.moment to es o.1 (leb-true m (x.1.moment + w) here))

others_in-apart : (a k : ℕ) (es : Entries) → eqb a k ≡ true → AllByRecursion (λ j. eqb k j ≡ false) (keys_of es)
    → others_in a es ≡ es
others_in-apart a k [] e all = refl
others_in-apart a k (x ∷ es) e all = grind (arith, nat_tests, others_in-apart a k es e all.1, all.0)

others_in-first : (e : ℕ × Contact) (es : Entries) → AllByRecursion (λ j. eqb e.0 j ≡ false) (keys_of es)
    → others_in e.0 (e ∷ es) ≡ es
others_in-first e es all =
    let same : eqb e.0 e.0 ≡ true = grind (arith, nat_tests) in
    filter-cons_no (λ x. not (eqb x.0 e.0)) e es (ap not same) ∙ others_in-apart e.0 e.0 es same all

-- if the first entry is stale, it may be dropped
pub first_stale : (w m : ℕ) (es : Entries) (e : ℕ × Contact) → IsDistinct eqb (keys_of es) → Some e ≡ slice_get es 0
    → is_fresh w m e.1 ≡ false
    → (filter (fresh_entry w m) (others_in e.0 es) ≡ filter (fresh_entry w m) es)
    × (length (others_in e.0 es) < length es)
unfolding IsDistinct
first_stale w m [] e d at f = absurd (false≢true (sym (ap is_some at)))
first_stale w m (x ∷ es) e d at f =
    let same : e ≡ x = same_entry e x at in
    let gone : others_in e.0 (x ∷ es) ≡ es =
    ap (λ (y : ℕ × Contact). others_in y.0 (x ∷ es)) same ∙ others_in-first x es d.0 in (
      ap (filter (fresh_entry w m)) gone
          ∙ sym (filter-cons_no (fresh_entry w m) x es (ap (λ (y : ℕ × Contact). is_fresh w m y.1) (sym same) ∙ f)),
      omega (arith, ap length gone),
    )

-- if an entry is stale, there are fewer fresh entries than entries
fewer_fresh : (w m a : ℕ) (es : Entries) (c : Contact) → Some c ≡ lookup (eqb a) es → is_fresh w m c ≡ false
    → length (filter (fresh_entry w m) es) < length es
fewer_fresh w m a [] c at f = absurd (false≢true (sym (ap is_some at)))
fewer_fresh w m a (x ∷ es) c at f = by (eqb a x.0) refl (fewer_fresh w m a es c)
  where
    by : (b : Bool) → eqb a x.0 ≡ b → (Some c ≡ lookup (eqb a) es → is_fresh w m c ≡ false
        → length (filter (fresh_entry w m) es) < length es)
        → length (filter (fresh_entry w m) (x ∷ es)) < length (x ∷ es)
    by true t rest =
        let same : c ≡ x.1 = ap (λ o. unwrap_or o c) (at ∙ ap (λ b. cond b (Some x.1) (lookup (eqb a) es)) t) in
        omega (
          arith,
          ap length (filter-cons_no (fresh_entry w m) x es (ap (is_fresh w m) (sym same) ∙ f)),
          length-filter_le (fresh_entry w m) es,
        )
    by false t rest =
        let less = rest (at ∙ ap (λ b. cond b (Some x.1) (lookup (eqb a) es)) t) f in
        at_head (fresh_entry w m x) refl less
      where
        at_head : (b : Bool) → fresh_entry w m x ≡ b → length (filter (fresh_entry w m) es) < length es
            → length (filter (fresh_entry w m) (x ∷ es)) < length (x ∷ es)
        at_head true h less = omega (arith, less, ap length (filter-cons_yes (fresh_entry w m) x es h))
        at_head false h less = omega (arith, less, ap length (filter-cons_no (fresh_entry w m) x es h))

module _ (w m a limit : ℕ) (es : Entries) (d : IsDistinct eqb (keys_of es)) (few : length es ≤ limit) where
  abbrev pub n : ℕ
  n = length (others_in a (filter (fresh_entry w m) es))

  pub room_short : length es < limit → leb limit n ≡ false
  room_short short = lt-leb limit n
      (omega (arith, short, count_fresh w m a es d, length-filter_le (fresh_entry w m) es))

  pub room_known : (c : Contact) → Some c ≡ lookup (eqb a) es → leb limit n ≡ false
  room_known c at = by (is_fresh w m c) refl
    where
      by : (b : Bool) → is_fresh w m c ≡ b → leb limit n ≡ false
      by true f =
          let one : one_if (fresh w m (lookup (eqb a) es)) ≡ 1 =
          ap (λ o. one_if (fresh w m o)) (sym at) ∙ ap (λ b. one_if (cond b (Some c) None)) f in
          lt-leb limit n (omega (arith, few, one, count_fresh w m a es d, length-filter_le (fresh_entry w m) es))
      by false f = lt-leb limit n (omega (arith, few, count_fresh w m a es d, fewer_fresh w m a es c at f))

  pub full_fresh : lookup (eqb a) es ≡ None → limit ≤ length es → filter (fresh_entry w m) es ≡ es → leb limit n ≡ true
  full_fresh none long all =
      let zero_one : one_if (fresh w m (lookup (eqb a) es)) ≡ 0 = ap (λ o. one_if (fresh w m o)) none in
      le-leb limit n (omega (arith, long, zero_one, ap length all, count_fresh w m a es d))

  pub room_stale : (e : ℕ × Contact) → Some e ≡ slice_get es 0 → is_fresh w m e.1 ≡ false → leb limit n ≡ false
  room_stale e at f = lt-leb limit n
      (omega (
        arith,
        few,
        count_fresh w m a es d,
        ap length (first_stale w m es e d at f).0,
        length-filter_le (fresh_entry w m) (others_in e.0 es),
        (first_stale w m es e d at f).1,
      ))

-- in order from the first on
pub from_first : (from to : ℕ) (es : Entries) (e : ℕ × Contact) → IsOrdered from to es → Some e ≡ slice_get es 0
    → IsOrdered e.1.moment to es
from_first from to [] e o at = absurd (false≢true (sym (ap is_some at)))
from_first from to (x ∷ es) e o at =
    subst (λ (y : ℕ × Contact). IsOrdered y.1.moment to (x ∷ es)) (sym (same_entry e x at)) (omega arith, o.1)

-- an empty list is in order from any timestamp on
pub from_none : (m : ℕ) (es : Entries) → None ≡ slice_get es 0 → IsOrdered m m es
from_none m [] at = omega arith
from_none m (x ∷ es) at = absurd (false≢true (ap is_some at))

pub none_kept : (p : ℕ × Contact → Bool) (es : Entries) → None ≡ slice_get es 0 → es ≡ filter p es
none_kept p [] at = refl
none_kept p (x ∷ es) at = absurd (false≢true (ap is_some at))

pub some_of : (o : Option Contact) → is_some o ≡ true → (c : Contact) × (Some c ≡ o)
some_of None e = absurd (false≢true e)
some_of (Some c) e = (c, refl)

pub none_of : (o : Option Contact) → is_some o ≡ false → o ≡ None
none_of None e = refl
none_of (Some c) e = absurd (true≢false e)

pub flipped : (b is : Bool) → not b ≡ is → b ≡ not is
flipped true is e = ap not e
flipped false is e = ap not e
