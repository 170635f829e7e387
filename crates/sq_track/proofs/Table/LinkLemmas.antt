-- Writes of links in a table.
use Rattle.std.proofs.Common.{◌≡◌, ℕ, zero, suc, ◌+◌, ◌-◌, ◌<◌, Bool, true, false, cond, eqb, List, [], ◌∷◌, ◌++◌, length, map}
use Rattle.std.proofs.Common.{slice_get}
use Rattle.std.proofs.Common.{Some, None, refl, sym, ap, ◌∙◌, arith, subst, get_or, set, take}
use Rattle.std.specs.Map.{lookup}
use Rattle.std.proofs.Common.{Option, IfSome, is_some}
use Rattle.std.specs.Option.{option_map}
use Rattle.std.proofs.lemmas.Bool.{true≢false, eqb-true, eqb-false}
use Rattle.std.proofs.lemmas.Option.{get_or_from_slice_get, slice_get-map}
use Rattle.std.proofs.lemmas.List.{length-map, length-set, get_or-set_same, get_or-set_other, get_or-take}
use Rattle.std.proofs.lemmas.List.{get_or_default}
use Rattle.std.proofs.Math.Seq.{take-append_seam}
use Rattle.std.specs.List.{swap_remove}
use Rattle.indexmap.proofs.SetLemmas.{map-swap_remove}
use Rattle.indexmap.specs.IndexMap.{IndexMap, Updates}
use Rattle.sq_track.specs.Ring.{IsLinking, address_at}
use Rattle.sq_track.specs.declared.contact.Contact.{Contact}
use Rattle.sq_track.specs.declared.links.Neighbours.{Neighbours}

abbrev Links : Type 0
Links = List Neighbours

-- ---- writes

-- reading a link at an index
pub read_at : (f : Neighbours → ℕ) (ls : Links) (i : ℕ) (d : Neighbours) → f d ≡ 0
    → f (get_or ls i d) ≡ get_or (map f ls) i 0
read_at f [] i d none = none
read_at f (l ∷ ls) zero d none = refl
read_at f (l ∷ ls) (suc i) d none = read_at f ls i d none

-- writing the link that is already there changes nothing
kept_at : (f : Neighbours → ℕ) (ls : Links) (i : ℕ) (l : Neighbours) → f l ≡ get_or (map f ls) i 0
    → map f (set ls i l) ≡ map f ls
kept_at f [] i l same = refl
kept_at f (x ∷ ls) zero l same = ap (λ y. y ∷ map f ls) same
kept_at f (x ∷ ls) (suc i) l same = ap (λ ys. f x ∷ ys) (kept_at f ls i l same)

set_at : (f : Neighbours → ℕ) (ls : Links) (i : ℕ) (l : Neighbours) → map f (set ls i l) ≡ set (map f ls) i (f l)
set_at f [] i l = refl
set_at f (x ∷ ls) zero l = refl
set_at f (x ∷ ls) (suc i) l = ap (λ ys. f x ∷ ys) (set_at f ls i l)

number_at : (xs : List ℕ) (i k y : ℕ) → i < length xs → get_or (set xs i y) k 0 ≡ cond (eqb k i) y (get_or xs k 0)
number_at xs i k y lt = by (eqb k i) refl
  where
    by : (b : Bool) → eqb k i ≡ b → get_or (set xs i y) k 0 ≡ cond b y (get_or xs k 0)
    by true e = subst (λ j. get_or (set xs i y) j 0 ≡ y) (sym (eqb-true k i e)) (get_or-set_same xs i y 0 lt)
    by false e = get_or-set_other xs i k y 0 (eqb-false k i e)

-- the links after a write at an index
written_at : (f : Neighbours → ℕ) (ls : Links) (i : ℕ) (l : Neighbours) (k : ℕ) → i < length ls
    → get_or (map f (set ls i l)) k 0 ≡ cond (eqb k i) (f l) (get_or (map f ls) k 0)
written_at f ls i l k lt = ap (λ ys. get_or ys k 0) (set_at f ls i l)
    ∙ number_at (map f ls) i k (f l) (omega (arith, lt, length-map ls f))

-- writing both ends of a link
pub linked : (from to : ℕ) (ls : Links) (d : Neighbours) → d.before ≡ 0 → d.after ≡ 0 → from < length ls
    → to < length ls
    → IsLinking from to ls (set (set ls from (record { before = (get_or ls from d).before; after = to })) to
    (record {
      before = from;
      after = (get_or (set ls from (record { before = (get_or ls from d).before; after = to })) to d).after;
    }))
linked from to ls d no_before no_after lt within = record {
  after = λ k. ap (λ ys. get_or ys k 0) (kept_at (λ l. l.after) ms to second (read_at (λ l. l.after) ms to d no_after))
      ∙ written_at (λ l. l.after) ls from first k lt;
  before = λ k. written_at (λ l. l.before) ms to second k (omega (arith, within, length-set ls from first))
      ∙ ap (λ ys. cond (eqb k to) from (get_or ys k 0))
      (kept_at (λ l. l.before) ls from first (read_at (λ l. l.before) ls from d no_before));
  long = length-set ms to second ∙ length-set ls from first;
}
  where
    first : Neighbours
    first = record { before = (get_or ls from d).before; after = to }

    ms : Links
    ms = set ls from first

    second : Neighbours
    second = record { before = from; after = (get_or ms to d).after }

-- a vector's items after all of them were borrowed and given back
pub written_back : {X : Type 0} (xs ys : List X) (n : ℕ) → n ≡ length xs → take n (xs ++ ys) ≡ xs
written_back xs ys n long = ap (λ k. take k (xs ++ ys)) long ∙ take-append_seam xs ys

-- ---- reads at an index

-- a read at an index below `n` needs only the first `n` items
pub front_at : {X : Type 0} (f : X → ℕ) (es : List X) (n k : ℕ) → k < n
    → get_or (map f es) k 0 ≡ get_or (map f (take n es)) k 0
front_at f [] zero k lt = refl
front_at f [] (suc n) k lt = refl
front_at f (e ∷ es) zero k lt = absurd (omega (arith, lt))
front_at f (e ∷ es) (suc n) zero lt = refl
front_at f (e ∷ es) (suc n) (suc k) lt = front_at f es n k (omega (arith, lt))

-- a read after the last item replaced another
number_moved : (xs : List ℕ) (i k d last : ℕ) → i < length xs → length xs ≡ last + 1 → k < last
    → get_or (swap_remove xs i d) k 0 ≡ cond (eqb k i) (get_or xs last 0) (get_or xs k 0)
number_moved xs i k d last lt long below =
    let is : length xs - 1 ≡ last = omega (arith, long) in
    ap (λ n. get_or (take n (set xs i (get_or xs n d))) k 0) is
    ∙ get_or-take last (set xs i (get_or xs last d)) k 0 below
    ∙ number_at xs i k (get_or xs last d) lt
    ∙ ap (λ y. cond (eqb k i) y (get_or xs k 0)) (get_or_default xs last d 0 (omega (arith, long)))

pub moved_at : {X : Type 0} (f : X → ℕ) (es : List X) (i k last : ℕ) (p : X) → i < length es
    → length es ≡ last + 1 → k < last
    → get_or (map f (swap_remove es i p)) k 0 ≡ cond (eqb k i) (get_or (map f es) last 0) (get_or (map f es) k 0)
moved_at f es i k last p lt long below =
    ap (λ l. get_or l k 0) (map-swap_remove f es i p (omega (arith, long)))
    ∙ number_moved (map f es) i k (f p) last (omega (arith, lt, length-map es f)) (length-map es f ∙ long) below

pub lost : {X : Type 0} (xs : List X) (i : ℕ) → i < length xs → None ≡ slice_get xs i → ⊥
lost [] i lt at = omega (arith, lt)
lost (x ∷ xs) zero lt at = true≢false (ap is_some (sym at))
lost (x ∷ xs) (suc i) lt at = lost xs i (omega (arith, lt)) at

pub shorter : {X : Type 0} (xs : List X) (i : ℕ) (r : Option X) (n : ℕ) → i < length xs → r ≡ slice_get xs i
    → n + (cond (is_some r) 1 0) ≡ length xs → n + 1 ≡ length xs
shorter xs i None n lt at count = absurd (lost xs i lt at)
shorter xs i (Some x) n lt at count = count

-- the entries after removing one by its index
module _ {S : Type 0} (m n : IndexMap ℕ Contact S) (at : ℕ) where
  pub dropped : (r : Option (ℕ × Contact)) → at < length m.entries → r ≡ slice_get m.entries at
      → IfSome r (λ p. n.entries ≡ swap_remove m.entries at p) → IfSome r (λ p. Updates eqb m n p.0 None)
      → ((p : ℕ × Contact) × (n.entries ≡ swap_remove m.entries at p))
      × ((k : ℕ) → lookup (eqb k) n.entries ≡ cond (eqb (address_at m.entries at) k) None (lookup (eqb k) m.entries))
  dropped None lt there is updates = absurd (lost m.entries at lt there)
  dropped (Some p) lt there is updates = (
    (p, is),
    λ k. updates.0 k ∙ ap (λ a. cond (eqb a k) None (lookup (eqb k) m.entries)) (sym address),
  )
    where
      address : address_at m.entries at ≡ p.0
      address = get_or_from_slice_get (map (λ e. e.0) m.entries) at p.0 0
          (slice_get-map (λ e. e.0) m.entries at ∙ ap (option_map (λ e. e.0)) (sym there))
