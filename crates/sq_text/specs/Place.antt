-- A position in two lines.
use Rattle.std.specs.Prelude.{◌≡◌, ℕ, ◌++◌, List, codes, decimal}
use Rattle.std.specs.Fmt.{signed_decimal}
use Rattle.sq_angle.specs.declared.position.Position.{Position}
use Rattle.sq_angle.specs.Fraction.{Fraction}
use Rattle.sq_angle.specs.Angle.{degrees}
use Rattle.sq_angle.specs.Position.{lat_of, lon_of}
use Rattle.sq_angle.specs.Decimal.{IsDecimal7}
use Rattle.sq_angle.specs.Lowest.{IsLowestFormOf}

-- a fraction in lowest terms, as `num/den`
abbrev pub IsFractionText : Fraction → List ℕ → Type 0
IsFractionText x text = (lowest : Fraction) × IsLowestFormOf x lowest
    × (text ≡ signed_decimal lowest.num ++ codes "/" ++ decimal lowest.den)

-- two texts with a space between them and a line feed at the end
abbrev pub pair_line : List ℕ → List ℕ → List ℕ
pair_line a b = a ++ codes " " ++ b ++ codes "\n"

-- both coordinates with seven decimals, and then in lowest terms
pub record IsPlaceText (position : Position) (text : List ℕ) : Type 0 where
  pub lat_decimals : List ℕ
  pub lon_decimals : List ℕ
  pub lat_fraction : List ℕ
  pub lon_fraction : List ℕ
  pub lat_rounded : IsDecimal7 (degrees (lat_of position)) lat_decimals
  pub lon_rounded : IsDecimal7 (degrees (lon_of position)) lon_decimals
  pub lat_lowest : IsFractionText (degrees (lat_of position)) lat_fraction
  pub lon_lowest : IsFractionText (degrees (lon_of position)) lon_fraction
  pub whole : text ≡ pair_line lat_decimals lon_decimals ++ pair_line lat_fraction lon_fraction
