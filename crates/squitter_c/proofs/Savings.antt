-- Entries that are written in order.
use Rattle.std.proofs.Common.{◌≡◌, ◌≢◌, ◌≤◌, ◌<◌, ◌+◌, ◌⊎◌, ◌∙◌, ℕ, zero, suc, [], ◌∷◌, List, Some, None, length, drop, get_or, set, refl, sym, ap}
use Rattle.std.proofs.Common.{slice_get, subst, subst₂, arith, inl, inr, is_some}
use Rattle.std.proofs.lemmas.Bool.{true≢false}
use Rattle.std.proofs.lemmas.Option.{slice_get_past}
use Rattle.std.proofs.lemmas.List.{length-set, get_or-set_same, get_or-set_other}
use Rattle.sq_track.specs.declared.contact.Contact.{Contact}
use Rattle.squitter_c.specs.declared.entry.PlainEntry.{PlainEntry}
use Rattle.squitter_c.specs.Entries.{IsEntryOf}
use Rattle.squitter_c.specs.Restoring.{AreTold, IsToldAt}

-- only the entries below n are written
pub record AreToldBelow (contacts : List (ℕ × Contact)) (was is : List PlainEntry) (n : ℕ) : Type 0 where
  pub long : length is ≡ length was
  pub told : (k : ℕ) → k < n → (p : PlainEntry) → IsToldAt (slice_get contacts k) (get_or was k p) (get_or is k p)
  pub rest : (k : ℕ) → n ≤ k → (p : PlainEntry) → get_or is k p ≡ get_or was k p

below_next : (k n : ℕ) → k < n + 1 → (k < n) ⊎ (k ≡ n)
below_next k n h = grind arith

module _ (contacts : List (ℕ × Contact)) (was is : List PlainEntry) where
  pub none_told : AreToldBelow contacts was was 0
  none_told = record {
    long = refl;
    told = λ k below p. absurd (omega (arith, below));
    rest = λ k past p. refl;
  }

  -- one more entry
  pub one_told : (n : ℕ) (e : ℕ × Contact) (p : PlainEntry) → AreToldBelow contacts was is n → n < length is
      → slice_get contacts n ≡ Some e → IsEntryOf p e → AreToldBelow contacts was (set is n p) (n + 1)
  one_told n e p h room there entry = record {
    long = length-set is n p ∙ h.long;
    told = λ k below d. elim (below_next k n below) [
      | inl less ↦
          let other : k ≢ n = λ same. absurd (omega (arith, less, same)) in
          subst (λ x. IsToldAt (slice_get contacts k) (get_or was k d) x) (sym (get_or-set_other is n k p d other))
          (h.told k less d)
      | inr same ↦
          subst (λ j. IsToldAt (slice_get contacts j) (get_or was j d) (get_or (set is n p) j d)) (sym same)
          (subst₂ (λ o x. IsToldAt o (get_or was n d) x) (sym there) (sym (get_or-set_same is n p d room)) entry)
    ];
    rest = λ k past d.
        let other : k ≢ n = λ same. absurd (omega (arith, past, same)) in
        get_or-set_other is n k p d other ∙ h.rest k (omega (arith, past)) d;
  }

  -- all entries that there is room for
  pub all_told : (n : ℕ) → AreToldBelow contacts was is n → length is ≤ n → AreTold contacts was is
  all_told n h all = record {
    long = h.long;
    each = λ k below p. h.told k (omega (arith, below, all, h.long)) p;
  }

  -- all entries that there are
  pub last_told : (n : ℕ) → AreToldBelow contacts was is n → slice_get contacts n ≡ None
      → ((k : ℕ) → n ≤ k → slice_get contacts k ≡ None) → AreTold contacts was is
  last_told n h none past = record {
    long = h.long;
    each = λ k below p. elim (either k) [
      | inl less ↦ h.told k less p
      | inr more ↦
          subst (λ o. IsToldAt o (get_or was k p) (get_or is k p)) (sym (past k more)) (h.rest k more p)
    ];
  }
    where
      either : (k : ℕ) → (k < n) ⊎ (n ≤ k)
      either k = grind arith

-- where there is nothing, the list has ended
pub past_end : {X : Type 0} (xs : List X) (n : ℕ) → slice_get xs n ≡ None → length xs ≤ n
past_end [] n none = omega arith
past_end (x ∷ xs) zero none = absurd (true≢false (ap is_some none))
past_end (x ∷ xs) (suc n) none = omega (arith, past_end xs n none)

-- past the end there is nothing
pub nothing_past : {X : Type 0} (xs : List X) (n : ℕ) → slice_get xs n ≡ None → (k : ℕ) → n ≤ k → slice_get xs k ≡ None
nothing_past xs n none k past = slice_get_past xs k (omega (arith, past, past_end xs n none))

-- an element of a list from an index on
pub from_on : {X : Type 0} (n : ℕ) (xs : List X) (k : ℕ) → slice_get (drop n xs) k ≡ slice_get xs (n + k)
from_on zero xs k = let e : k ≡ 0 + k = omega arith in ap (slice_get xs) e
from_on (suc n) [] k = refl
from_on (suc n) (x ∷ xs) k =
    let e : suc (n + k) ≡ suc n + k = omega arith in from_on n xs k ∙ ap (slice_get (x ∷ xs)) e
