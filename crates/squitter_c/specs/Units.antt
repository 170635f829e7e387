-- The unit of timestamps in arrays.
use Rattle.std.specs.Prelude.{ℕ, List, [], ◌∷◌, Option, Some, None}
use Rattle.sq_feed.specs.Units.{Watched, watched}
use Rattle.sq_feed.specs.declared.units.Unit.{Unit}
use Rattle.sq_feed.specs.declared.units.Unit.TheVariants.{Seconds, Microseconds, Nanoseconds, AllZero, Gps}

-- the number of a unit; 0 for milliseconds, as far as it shows
abbrev pub unit_number : Option Unit → ℕ
unit_number None = 0
unit_number (Some Seconds) = 1
unit_number (Some Microseconds) = 2
unit_number (Some Nanoseconds) = 3
unit_number (Some AllZero) = 4
unit_number (Some Gps) = 5

-- the state after timestamps and addresses, up to the end of the shorter list
unfoldable pub watched_arrays : Watched → (moments addresses : List ℕ) → Watched
watched_arrays w [] addresses = w
watched_arrays w (moment ∷ moments) [] = w
watched_arrays w (moment ∷ moments) (address ∷ addresses) = watched_arrays (watched w moment address) moments addresses
