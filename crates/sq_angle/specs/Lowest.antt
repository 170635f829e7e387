-- A fraction in lowest terms: no number above 1 divides both parts.
use Rattle.std.specs.Prelude.{◌≤◌, unsigned_abs}
use Rattle.std.specs.Int.{IsGcd}
use Rattle.sq_angle.specs.Fraction.{Fraction, ◌≃◌}

-- x is in lowest terms
pub record IsLowestTerms (x : Fraction) : Type 0 where
  pub positive : 1 ≤ x.den
  pub coprime : IsGcd (unsigned_abs x.num) x.den 1

-- lowest is x in lowest terms
pub record IsLowestFormOf (x lowest : Fraction) : Type 0 where
  pub terms : IsLowestTerms lowest
  pub value : lowest ≃ x
