-- The result of reading a text as an angle: the angle, or the first error.
use Rattle.std.specs.Prelude.{◌≡◌, ℕ, ◌≤◌, ◌<◌, List, length, Result, Ok, Err}
use Rattle.sq_angle.specs.declared.angle.Angle.{Angle}
use Rattle.sq_angle.specs.declared.read.AngleFault.{AngleFault}
use Rattle.sq_angle.specs.declared.read.AngleFault.TheVariants.{NotANumber, TooManyDecimals, OutOfRange}
use Rattle.sq_angle.specs.Fraction.{IsWithin}
use Rattle.sq_angle.specs.Angle.{degrees}
use Rattle.sq_angle.specs.Spelling.{Parts, Spells, value_of}

-- the greatest number of decimals
abbrev pub most_decimals : ℕ
most_decimals = 12

-- The angle of the text, which has at most twelve decimals; or that the text is not a number, has more decimals, or
-- has a magnitude above 360 degrees.
abbrev pub IsReading : List ℕ → Result Angle AngleFault → Type 0
IsReading text (Ok a) = (p : Parts) × Spells text p × (length p.decimals ≤ most_decimals) × (degrees a ≡ value_of p)
IsReading text (Err NotANumber) = (p : Parts) → ¬ Spells text p
IsReading text (Err TooManyDecimals) = (p : Parts) × Spells text p × (most_decimals < length p.decimals)
IsReading text (Err OutOfRange) =
    (p : Parts) × Spells text p × (length p.decimals ≤ most_decimals) × ¬ IsWithin 360 (value_of p)
