-- The arguments of the commands, as their words spell them.
use Rattle.std.specs.Prelude.{◌≡◌, ◌⊎◌, ⊤, ℕ, ◌≤◌, ◌++◌, ℤ, Bool, List, Option, None, Some, Result, Ok, Err}
use Rattle.std.specs.Prelude.{MatchResult, length, codes}
use Rattle.std.specs.Char.{IsAsciiDigit}
use Rattle.std.specs.Int.Digits.{number_from_digits}
use Rattle.std.specs.List.{AllByRecursion}
use Rattle.std.specs.Str.Parse.{digits_value}
use Rattle.hex.specs.Hex.{decode_of}
use Rattle.sq_angle.specs.declared.angle.Angle.{Angle}
use Rattle.sq_angle.specs.declared.position.Position.{Position}
use Rattle.sq_angle.specs.declared.read.AngleFault.{AngleFault}
use Rattle.sq_angle.specs.declared.read.AngleFault.TheVariants.{OutOfRange}
use Rattle.sq_angle.specs.Angle.{degrees}
use Rattle.sq_angle.specs.Fraction.{IsWithin}
use Rattle.sq_angle.specs.Position.{lat_of, lon_of}
use Rattle.sq_angle.specs.Reading.{IsReading}
use Rattle.sq_angle.specs.Spelling.{minus, signed}
use Rattle.sq_message.specs.Altitudes.{IsFieldOfFeet}
use Rattle.sq_commands.specs.declared.arguments.ArgumentFault.{ArgumentFault}
use Rattle.sq_commands.specs.declared.arguments.ArgumentFault.TheVariants.{Site, Lat, Lon}
use Rattle.sq_commands.specs.declared.arguments.Kind.{Kind}
use Rattle.sq_commands.specs.declared.arguments.Kind.TheVariants.{Air, Ground}

abbrev pub kind_name : Kind → List ℕ
kind_name Air = codes "air"
kind_name Ground = codes "ground"

-- six hexadecimal digits of either case, the most significant first
abbrev pub IsAddress : List ℕ → ℕ → Type 0
IsAddress word address =
    (bytes : List ℕ) × (length bytes ≡ 3) × (decode_of word ≡ Ok bytes) × (address ≡ number_from_digits 256 bytes)

-- one to five digits of a number
pub record IsFiveDigits (digits : List ℕ) (number : ℕ) : Type 0 where
  pub some : 1 ≤ length digits
  pub five : length digits ≤ 5
  pub each : AllByRecursion IsAsciiDigit digits
  pub value : number ≡ digits_value 10 digits

-- an optional `-` and one to five digits
pub record IsFeetText (word : List ℕ) (feet : ℤ) : Type 0 where
  pub negative : Bool
  pub digits : List ℕ
  pub number : ℕ
  pub whole : word ≡ minus negative ++ digits
  pub of_digits : IsFiveDigits digits number
  pub value : feet ≡ signed negative number

-- the altitude field of this many feet
abbrev pub IsFeet : List ℕ → ℕ → Type 0
IsFeet word field = (feet : ℤ) × IsFeetText word feet × IsFieldOfFeet field feet

-- two angles, a latitude and a longitude
abbrev pub IsPositionWords : List ℕ → List ℕ → Position → Type 0
IsPositionWords lat lon position = IsReading lat (Ok (lat_of position)) × IsReading lon (Ok (lon_of position))

-- both words of a position, or neither and no site
abbrev pub IsSiteWords : Option (List ℕ) → Option (List ℕ) → Option Position → Type 0
IsSiteWords None None None = ⊤
IsSiteWords None None (Some position) = ⊥
IsSiteWords None (Some lon) site = ⊥
IsSiteWords (Some lat) None site = ⊥
IsSiteWords (Some lat) (Some lon) None = ⊥
IsSiteWords (Some lat) (Some lon) (Some position) = IsPositionWords lat lon position

-- ---- the first fault

-- an angle of at most `limit` degrees
abbrev pub IsAngleWord : ℕ → List ℕ → Type 0
IsAngleWord limit word = (angle : Angle) × IsReading word (Ok angle) × IsWithin limit (degrees angle)

-- the error of an angle: its text is invalid, or it exceeds the limit
abbrev pub IsAngleFault : ℕ → List ℕ → AngleFault → Type 0
IsAngleFault limit word fault = IsReading word (Err fault)
    ⊎ ((fault ≡ OutOfRange) × ((angle : Angle) × IsReading word (Ok angle) × ¬ IsWithin limit (degrees angle)))

-- the first fault of a position: the latitude is read first
abbrev pub IsPositionFault : (lat lon : List ℕ) → ArgumentFault → Type 0
IsPositionFault lat lon fault =
    ((why : AngleFault) × (fault ≡ Lat why) × IsAngleFault 90 lat why)
    ⊎ ((why : AngleFault) × (fault ≡ Lon why) × IsAngleWord 90 lat × IsAngleFault 180 lon why)

-- the first fault of a receiver position: one word alone, or the position's fault
abbrev pub IsSiteFault : (lat lon : Option (List ℕ)) → ArgumentFault → Type 0
IsSiteFault None None fault = ⊥
IsSiteFault None (Some lon) fault = fault ≡ Site
IsSiteFault (Some lat) None fault = fault ≡ Site
IsSiteFault (Some lat) (Some lon) fault = IsPositionFault lat lon fault

-- an invalid argument has this fault; after a valid one the next are read
abbrev pub IsFaultUnless : (Good : Type 0) → (fault own : ArgumentFault) → (Next : Type 0) → Type 0
IsFaultUnless Good fault own Next = ((fault ≡ own) × (¬ Good)) ⊎ (Good × Next)

-- ---- readings

-- a position, or the first fault of its words
abbrev pub IsPositionReading : (lat lon : List ℕ) → Result Position ArgumentFault → Type 0
IsPositionReading lat lon reading = MatchResult reading (IsPositionWords lat lon) (IsPositionFault lat lon)

-- a site or none, or the first fault of its words
abbrev pub IsSiteReading : (lat lon : Option (List ℕ)) → Result (Option Position) ArgumentFault → Type 0
IsSiteReading lat lon reading = MatchResult reading (IsSiteWords lat lon) (IsSiteFault lat lon)
