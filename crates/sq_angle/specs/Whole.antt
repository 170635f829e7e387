-- Unique values, and whole numbers that differ by a whole multiple.
use Rattle.std.specs.Prelude.{◌≡◌, ℕ, ℤ, pos, ◌+ℤ◌, ◌*ℤ◌}

-- exactly one value has the property
abbrev pub ExactlyOne : {A : Type 0} → (A → Type 0) → Type 0
ExactlyOne {A} P = (x : A) × P x × ((y : A) → P y → y ≡ x)

-- a and b differ by a whole multiple of m
pub record IsCongruent (m : ℕ) (a b : ℤ) : Type 0 where
  pub times : ℤ
  pub apart : a ≡ b +ℤ pos m *ℤ times
