-- Fractions of whole numbers, not reduced: 1/2 and 2/4 are two fractions with the same value. Two fractions compare
-- as whole numbers, with the denominators multiplied out.
use Rattle.std.specs.Prelude.{◌≡◌, ℕ, ◌*◌, ◌≤◌, ℤ, pos, neg_ℤ, ◌+ℤ◌, ◌-ℤ◌, ◌*ℤ◌, ◌≤ℤ◌, ◌<ℤ◌, unsigned_abs}

-- num / den
pub record Fraction : Type 0 where
  pub num : ℤ
  pub den : ℕ

-- x is at most y
infix 50 ◌≼◌ ◌≺◌ ◌≃◌
abbrev pub ◌≼◌ : Fraction → Fraction → Type 0
x ≼ y = (pos y.den *ℤ x.num) ≤ℤ (pos x.den *ℤ y.num)

-- x is below y
abbrev pub ◌≺◌ : Fraction → Fraction → Type 0
x ≺ y = (pos y.den *ℤ x.num) <ℤ (pos x.den *ℤ y.num)

-- x and y have the same value
abbrev pub ◌≃◌ : Fraction → Fraction → Type 0
x ≃ y = (pos y.den *ℤ x.num) ≡ (pos x.den *ℤ y.num)

-- a whole number, as a fraction
abbrev pub whole : ℕ → Fraction
whole n = record { num = pos n; den = 1 }

-- x + y
abbrev pub plus : Fraction → Fraction → Fraction
plus x y = record { num = pos y.den *ℤ x.num +ℤ pos x.den *ℤ y.num; den = x.den * y.den }

-- x - y
abbrev pub minus : Fraction → Fraction → Fraction
minus x y = record { num = pos y.den *ℤ x.num -ℤ pos x.den *ℤ y.num; den = x.den * y.den }

-- -x
abbrev pub opposite : Fraction → Fraction
opposite x = record { num = neg_ℤ x.num; den = x.den }

-- x or -x, whichever is not negative
abbrev pub magnitude : Fraction → Fraction
magnitude x = record { num = pos (unsigned_abs x.num); den = x.den }

-- the magnitude of x is at most `degrees`
abbrev pub IsWithin : ℕ → Fraction → Type 0
IsWithin degrees x = unsigned_abs x.num ≤ degrees * x.den
