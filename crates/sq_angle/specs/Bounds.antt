-- The limits of angles and of positions.
use Rattle.std.specs.Prelude.{ℕ, ◌^◌, ◌≤◌, ℤ}
use Rattle.sq_angle.specs.Fraction.{Fraction, IsWithin}

-- the greatest denominator of an angle
abbrev pub most_den : ℕ
most_den = 10 ^ 12

-- num/den is a valid angle: its denominator is from 1 to 10^12, and its magnitude is at most 360 degrees
pub record IsAngle (num : ℤ) (den : ℕ) : Type 0 where
  pub positive : 1 ≤ den
  pub at_most : den ≤ most_den
  pub within : IsWithin 360 (record { num = num; den = den })

-- a position has a latitude from -90 to 90 degrees and a longitude from -180 to 180
pub record IsPosition (lat lon : Fraction) : Type 0 where
  pub latitude : IsWithin 90 lat
  pub longitude : IsWithin 180 lon
