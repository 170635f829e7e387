-- Fields that lie apart.
use Rattle.std.proofs.Common.{◌+◌, ◌<◌, ◌≤◌, ◌⊎◌, inl, inr, ℕ, arith}
use Rattle.std.proofs.lemmas.Bool.{cases_lt}

-- fields that lie apart share no bit
pub no_common_place : (start len first count : ℕ) → (start + len ≤ first) ⊎ (first + count ≤ start) → (place : ℕ)
    → start ≤ place → place < start + len → first ≤ place → place < first + count → ⊥
no_common_place start len first count (inl before) place from below first_from first_below = absurd (omega arith)
no_common_place start len first count (inr after) place from below first_from first_below = absurd (omega arith)

-- if two ranges share no place, one ends before the other begins
pub ends_before : (start len first count : ℕ) → 0 < len → 0 < count
    → ((place : ℕ) → start ≤ place → place < start + len → first ≤ place → place < first + count → ⊥)
    → (start + len ≤ first) ⊎ (first + count ≤ start)
ends_before start len first count some any none =
    elim (cases_lt first (start + len)) [
      | inr before ↦ inl before
      | inl over ↦ elim (cases_lt start (first + count)) [
        | inr after ↦ inr after
        | inl both ↦ elim (cases_lt start first) [
          | inl later ↦ absurd (none first (omega arith) over (omega arith) (omega arith))
          | inr same ↦ absurd (none start (omega arith) (omega arith) same both)
        ]
      ]
    ]
