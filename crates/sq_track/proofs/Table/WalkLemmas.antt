-- From one entry of the order to the next, and to the last.
use Rattle.std.proofs.Common.{◌≡◌, ℕ, zero, suc, ◌+◌, ◌<◌, Bool, true, false, ◌||◌, eqb, List, [], ◌∷◌, ◌++◌, length, reverse, slice_get, ◌-◌}
use Rattle.std.proofs.Common.{Option, Some, None, IfSome, is_some, unwrap_or, refl, sym, ap, ◌∙◌, arith, subst}
use Rattle.std.specs.List.{AllByRecursion, IsDistinct}
use Rattle.std.specs.Map.{keys_of, lookup}
use Rattle.std.specs.Option.{option_map}
use Rattle.std.proofs.lemmas.Bool.{false≢true, eqb-true, eq-eqb}
use Rattle.std.proofs.lemmas.List.{length-append, length-reverse}
use Rattle.std.proofs.lemmas.Option.{slice_get-get_or, slice_get-map}
use Rattle.sq_track.specs.Ordered.{entries_in, entry_of, has_address, moments_in}
use Rattle.sq_track.specs.Ring.{IsLinkedTable, IsRound, address_at, addresses_in, after_at, before_at, round}
use Rattle.sq_track.specs.declared.contact.Contact.{Contact}
use Rattle.sq_track.specs.declared.links.Neighbours.{Neighbours}
use Rattle.sq_track.proofs.Lists.Filters.{reverse-cons}
use Rattle.sq_track.proofs.Lists.Found.{same_some}
use Rattle.sq_track.proofs.Lists.Rings.{chain-length, chain-next, ends_path}
use Rattle.sq_track.proofs.Table.PlaceLemmas.{below_round, by_address, links-length, next_at, seen, seen_moment, view-length}
use Rattle.sq_track.proofs.Table.RoundLemmas.{open_round}

abbrev Entries : Type 0
Entries = List (ℕ × Contact)

abbrev Links : Type 0
Links = List Neighbours

each_at : (P : ℕ → Type 0) (is : List ℕ) (k i : ℕ) → AllByRecursion P is → slice_get is k ≡ Some i → P i
each_at P [] k i all at = absurd (false≢true (ap is_some at))
each_at P (x ∷ is) zero i all at = subst P (ap (λ o. unwrap_or o x) at) all.0
each_at P (x ∷ is) (suc k) i all at = each_at P is k i all.1 at

has_at : (is : List ℕ) (k a : ℕ) → slice_get is k ≡ Some a → has_address a is ≡ true
has_at [] k a at = absurd (false≢true (ap is_some at))
has_at (x ∷ is) zero a at = ap (λ b. b || has_address a is) (eq-eqb a x (sym (ap (λ o. unwrap_or o x) at)))
has_at (x ∷ is) (suc k) a at = ap (λ b. eqb a x || b) (has_at is k a at) ∙ or_true (eqb a x)
  where
    or_true : (b : Bool) → (b || true) ≡ true
    or_true true = refl
    or_true false = refl

-- the table index of an address that is at an index of the order
shown_by : (es : Entries) (ls : Links) (oldest index address : ℕ) (contact : Contact) (o : Option ℕ)
    → slice_get (round ls oldest) index ≡ o
    → slice_get (entries_in es (addresses_in es ls oldest)) index ≡ Some (address, contact)
    → (i : ℕ) × (o ≡ Some i) × (address_at es i ≡ address)
shown_by es ls oldest index address contact o at shown = by o shown_at
  where
    shown_at : option_map (entry_of es) (option_map (address_at es) o) ≡ Some (address, contact)
    shown_at = ap (λ p. option_map (entry_of es) (option_map (address_at es) p)) (sym at)
        ∙ ap (option_map (entry_of es)) (sym (slice_get-map (address_at es) (round ls oldest) index))
        ∙ sym (slice_get-map (entry_of es) (addresses_in es ls oldest) index) ∙ shown

    by : (p : Option ℕ) → option_map (entry_of es) (option_map (address_at es) p) ≡ Some (address, contact)
        → (i : ℕ) × (p ≡ Some i) × (address_at es i ≡ address)
    by None e = absurd (false≢true (ap is_some e))
    by (Some i) e = (i, refl, ap (λ (q : Option (ℕ × Contact)). (unwrap_or q (address_at es i, contact)).0) e)

pub index_at : (es : Entries) (ls : Links) (oldest index at address : ℕ) (contact : Contact)
    → IsLinkedTable es ls oldest → IsDistinct eqb (keys_of es) → at < length es → address_at es at ≡ address
    → slice_get (entries_in es (addresses_in es ls oldest)) index ≡ Some (address, contact)
    → slice_get (round ls oldest) index ≡ Some at
index_at es ls oldest index at address contact table d lt is shown =
    let (i, at_is, there) =
    shown_by es ls oldest index address contact (slice_get (round ls oldest) index) refl shown in
    let below : i < length ls =
    each_at (λ k. k < length ls) (round ls oldest) index i (below_round ls oldest table.is_round) at_is in
    let same : eqb i at ≡ true =
    sym (by_address es at i d lt (omega (arith, below, links-length es ls oldest table)))
    ∙ eq-eqb (address_at es i) (address_at es at) (there ∙ sym is) in
    at_is ∙ ap Some (eqb-true i at same)

-- an address in the order is in the table
pub is_there : (es : Entries) (ls : Links) (oldest index address : ℕ) (contact : Contact)
    → IsLinkedTable es ls oldest
    → slice_get (entries_in es (addresses_in es ls oldest)) index ≡ Some (address, contact)
    → is_some (lookup (eqb address) es) ≡ true
is_there es ls oldest index address contact table shown =
    let (i, at_is, there) =
    shown_by es ls oldest index address contact (slice_get (round ls oldest) index) refl shown in
    table.tied.same address
    ∙ has_at (addresses_in es ls oldest) index address
    (slice_get-map (address_at es) (round ls oldest) index ∙ ap (option_map (address_at es)) at_is
    ∙ ap Some there)

-- the entry after one
pub behind : (es : Entries) (ls : Links) (oldest index at next : ℕ) (r : Option (ℕ × Contact))
    → IsLinkedTable es ls oldest → slice_get (round ls oldest) index ≡ Some at → index + 1 < length es
    → at < length es → next ≡ after_at ls at → r ≡ slice_get es next
    → IfSome (slice_get es next) (λ e. lookup (eqb e.0) es ≡ Some e.1)
    → r ≡ slice_get (entries_in es (addresses_in es ls oldest)) (index + 1)
behind es ls oldest index at next r table here more lt is r_is found =
    let long = links-length es ls oldest table in
    let two =
    next_at ls oldest index at next table.is_round here (omega (arith, more, long)) (omega (arith, lt, long)) is in
    seen es ls oldest (index + 1) next r two.0 (omega (arith, two.1, long)) r_is
    (subst (λ o. IfSome o (λ e. lookup (eqb e.0) es ≡ Some e.1)) (sym r_is) found)

-- an element of two lists, one behind the other
in_front : {X : Type 0} (xs ys : List X) (k : ℕ) → k < length xs → slice_get (xs ++ ys) k ≡ slice_get xs k
in_front [] ys k lt = absurd (omega (arith, lt))
in_front (x ∷ xs) ys zero lt = refl
in_front (x ∷ xs) ys (suc k) lt = in_front xs ys k (omega (arith, lt))

at_seam : {X : Type 0} (xs : List X) (x : X) (k : ℕ) → k ≡ length xs → slice_get (xs ++ x ∷ []) k ≡ Some x
at_seam [] x zero e = refl
at_seam [] x (suc k) e = absurd (omega (arith, e))
at_seam (y ∷ xs) x zero e = absurd (omega (arith, e))
at_seam (y ∷ xs) x (suc k) e = at_seam xs x k (omega (arith, e))

-- the last index of the order is the one before the oldest
last_at : (ls : Links) (oldest k : ℕ) → IsRound ls oldest → k + 1 ≡ length ls
    → slice_get (round ls oldest) k ≡ Some (before_at ls oldest)
last_at ls oldest k is_round long =
    let (rest, is_open) = open_round ls oldest (omega (arith, long)) is_round in
    let last = before_at ls oldest in
    let (front, is) = ends_path (after_at ls) (length ls) oldest rest oldest last is_open.path is_open.below
    (λ i lt e. sym (is_round.forward.back i lt) ∙ ap (before_at ls) e) in
    let whole : round ls oldest ≡ front ++ last ∷ [] = is_open.is ∙ is in
    let size : k ≡ length front =
    omega (arith, long, chain-length (after_at ls) ls oldest, ap length whole, length-append front (last ∷ [])) in
    ap (λ l. slice_get l k) whole ∙ at_seam front last k size

-- an element of the reversed list
pub from_end : {X : Type 0} (xs : List X) (k i : ℕ) → k + i + 1 ≡ length xs → slice_get (reverse xs) k ≡ slice_get xs i
from_end [] k i size = absurd (omega (arith, size))
from_end (x ∷ xs) k zero size =
    ap (λ l. slice_get l k) (reverse-cons x xs)
    ∙ at_seam (reverse xs) x k (omega (arith, size, length-reverse xs))
from_end (x ∷ xs) k (suc i) size =
    ap (λ l. slice_get l k) (reverse-cons x xs)
    ∙ in_front (reverse xs) (x ∷ []) k (omega (arith, size, length-reverse xs)) ∙ from_end xs k i (omega (arith, size))

-- the entry of the address that was heard last
pub newest : (es : Entries) (ls : Links) (oldest k at : ℕ) → IsLinkedTable es ls oldest → k + 1 ≡ length es
    → at ≡ before_at ls oldest
    → IfSome (slice_get es at) (λ e. lookup (eqb e.0) es ≡ Some e.1)
    → slice_get (moments_in es) at ≡ slice_get (moments_in (entries_in es (addresses_in es ls oldest))) k
newest es ls oldest k at table size is found =
    let long = links-length es ls oldest table in
    seen_moment es ls oldest k at (last_at ls oldest k table.is_round (omega (arith, size, long)) ∙ ap Some (sym is))
    (omega (
      arith,
      subst (λ i. i < length ls) (sym is)
          (table.is_round.backward.within oldest (table.is_round.within (omega (arith, size, long)))),
      long,
    ))
    found

-- the last entry of the order
pub last_entry : (es : Entries) (ls : Links) (oldest at : ℕ) (r : Option (ℕ × Contact)) → IsLinkedTable es ls oldest
    → 0 < length es → at ≡ before_at ls oldest → r ≡ slice_get es at
    → IfSome (slice_get es at) (λ e. lookup (eqb e.0) es ≡ Some e.1)
    → r ≡ slice_get (reverse (entries_in es (addresses_in es ls oldest))) 0
last_entry es ls oldest at r table some is r_is found =
    let long = links-length es ls oldest table in
    let view = view-length es ls oldest table.tied in
    let k = length es - 1 in
    seen es ls oldest k at r (last_at ls oldest k table.is_round (omega (arith, some, long)) ∙ ap Some (sym is))
    (omega (
      arith,
      subst (λ i. i < length ls) (sym is)
          (table.is_round.backward.within oldest (table.is_round.within (omega (arith, some, long)))),
      long,
    ))
    r_is (subst (λ o. IfSome o (λ e. lookup (eqb e.0) es ≡ Some e.1)) (sym r_is) found)
    ∙ sym (from_end (entries_in es (addresses_in es ls oldest)) 0 k (omega (arith, some, view)))

-- the index before one in the order
prior_at : (ls : Links) (oldest k at : ℕ) → IsRound ls oldest → slice_get (round ls oldest) (suc k) ≡ Some at
    → suc k < length ls → slice_get (round ls oldest) k ≡ Some (before_at ls at)
prior_at ls oldest k at is_round here lt = by (slice_get (round ls oldest) k) refl
  where
    by : (o : Option ℕ) → slice_get (round ls oldest) k ≡ o → o ≡ Some (before_at ls at)
    by None none =
        absurd (false≢true (ap is_some (sym none
        ∙ slice_get-get_or (round ls oldest) k 0 (omega (arith, lt, chain-length (after_at ls) ls oldest)))))
    by (Some i) there =
        let below : i < length ls =
        each_at (λ k. k < length ls) (round ls oldest) k i (below_round ls oldest is_round) there in
        let next : after_at ls i ≡ at =
        same_some (after_at ls i) at (sym (chain-next (after_at ls) ls oldest k i there lt) ∙ here) in
        ap Some (sym (is_round.forward.back i below) ∙ ap (before_at ls) next)

-- the entry before one in the order
pub ahead : (es : Entries) (ls : Links) (oldest index at next : ℕ) (r : Option (ℕ × Contact))
    → IsLinkedTable es ls oldest → slice_get (round ls oldest) (suc index) ≡ Some at → suc index < length es
    → at < length es → next ≡ before_at ls at → r ≡ slice_get es next
    → IfSome (slice_get es next) (λ e. lookup (eqb e.0) es ≡ Some e.1)
    → r ≡ slice_get (entries_in es (addresses_in es ls oldest)) index
ahead es ls oldest index at next r table here more lt is r_is found =
    let long = links-length es ls oldest table in
    seen es ls oldest index next r
    (prior_at ls oldest index at table.is_round here (omega (arith, more, long)) ∙ ap Some (sym is))
    (omega (
      arith,
      subst (λ i. i < length ls) (sym is) (table.is_round.backward.within at (omega (arith, lt, long))),
      long,
    ))
    r_is (subst (λ o. IfSome o (λ e. lookup (eqb e.0) es ≡ Some e.1)) (sym r_is) found)
