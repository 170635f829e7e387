-- Many calls in one.
use Rattle.std.specs.Prelude.{◌≡◌, ◌<◌, ◌≤◌, ℕ, zero, suc, List, length, min, slice_index_or}

-- Only elements below index n were written: from there on both arrays are unchanged, and so are their lengths.
pub record IsBelow {B C : Type 0} (was is : List B) (before after : List C) (n : ℕ) : Type 0 where
  pub long : (length is ≡ length was) × (length after ≡ length before)
  pub rest :
      (k : ℕ) → n ≤ k → (b : B) (c : C)
      → (slice_index_or is k b ≡ slice_index_or was k b) × (slice_index_or after k c ≡ slice_index_or before k c)

-- Each element below index n has the result of the single call: `At k old new fault`. The rest is unchanged.
pub record AreAnswered {B C : Type 0} (At : ℕ → B → B → C → Type 0) (was is : List B) (before after : List C) (n : ℕ)
    : Type 0 where
  pub below : IsBelow was is before after n
  pub answered :
      (k : ℕ) → k < n → (b : B) (c : C)
      → At k (slice_index_or was k b) (slice_index_or is k b) (slice_index_or after k c)

-- n calls in order lead from the first state to the last, each from the state that the one before it left.
-- `At k s t old new fault` says that call k leads from state s to state t.
abbrev pub Leads : {S B C : Type 0} → (At : ℕ → S → S → B → B → C → Type 0) → (first : S) → (was is : List B)
    → (after : List C) → (n : ℕ) → (last : S) → Type 0
Leads At first was is after zero last = last ≡ first
Leads {S} {B} {C} At first was is after (suc n) last = (before : S) × Leads At first was is after n before
    × ((b : B) (c : C) → At n before last (slice_index_or was n b) (slice_index_or is n b) (slice_index_or after n c))

-- the shortest of three lengths
abbrev pub shortest : (a b c : ℕ) → ℕ
shortest a b c = min a (min b c)
