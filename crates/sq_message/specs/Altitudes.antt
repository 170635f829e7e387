-- The altitude of an airborne position: the 12-bit field at ME bits 9 to 20 (ICAO Doc 9871, register 0,5).
use Rattle.std.specs.Prelude.{◌≡◌, ◌≢◌, ℕ, ℤ, pos, negsuc, ◌+◌, ◌*◌, ◌<◌, ◌≤◌, ◌^◌, ◌⊎◌, ◌+ℤ◌, ◌*ℤ◌, ◌≤ℤ◌}
use Rattle.sq_message.specs.declared.air.Altitude.{Altitude}
use Rattle.sq_message.specs.declared.air.Altitude.TheVariants.{Missing, Feet, Raw}

-- the field is made of seven upper bits (`high`), the Q bit (`q`) and four lower bits (`low`)
pub record IsField (field high q low : ℕ) : Type 0 where
  pub seven : high < 2 ^ 7
  pub one : q < 2
  pub four : low < 2 ^ 4
  pub bits : field ≡ high * 2 ^ 5 + q * 2 ^ 4 + low

-- the Q bit is 1, and the field means `25 * N - 1000` feet; the upper and then the lower bits make N
abbrev pub IsFieldOfFeet : ℕ → ℤ → Type 0
IsFieldOfFeet field feet = (high low : ℕ) × IsField field high 1 low
    × (feet +ℤ pos 1000 ≡ pos (25 * (high * 2 ^ 4 + low)))

-- the Q bit is 0
abbrev pub IsOtherForm : ℕ → Type 0
IsOtherForm field = (high low : ℕ) × IsField field high 0 low

-- the meaning of an altitude field under a type code; from type code 20 on it is a GNSS height and stays raw
abbrev pub IsAltitude : ℕ → ℕ → Altitude → Type 0
IsAltitude code field Missing = (code ≤ 18) × (field ≡ 0)
IsAltitude code field (Feet feet) = (code ≤ 18) × IsFieldOfFeet field feet
IsAltitude code field (Raw raw) = (raw ≡ field) × ((20 ≤ code) ⊎ ((field ≢ 0) × IsOtherForm field))

-- a multiple of 25 from -1000 to 50175
pub record HasField (feet : ℤ) : Type 0 where
  pub least : negsuc 999 ≤ℤ feet
  pub most : feet ≤ℤ pos 50175
  pub multiple : (k : ℤ) × (feet ≡ pos 25 *ℤ k)
