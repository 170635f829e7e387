-- The grid of a span and a parity (RTCA DO-260B, appendix on compact position reporting).
use Rattle.std.specs.Prelude.{◌≡◌, ℕ, ◌-◌, ◌*◌, ◌%◌, ◌<◌, ℤ, pos, ◌-ℤ◌, ◌*ℤ◌, unsigned_abs, nat_lt, if◌then◌else◌}
use Rattle.std.specs.Int.{int_rem_euclid}
use Rattle.sq_angle.specs.Fraction.{Fraction, IsWithin}
use Rattle.sq_angle.specs.Whole.{IsCongruent}
use Rattle.sq_zones.specs.Zones.{lon_zones_at, parity_index}
use Rattle.sq_zones.specs.declared.parity.Parity.{Parity}
pub use Rattle.sq_cpr.specs.Sizes.{codes_of_zone}
use Rattle.sq_cpr.specs.Code.{CodeNumbers}
use Rattle.sq_cpr.specs.Span.{Span}

-- a point: its parity, its latitude index, its number of longitude zones and its longitude index
pub record Point : Type 0 where
  pub parity : Parity
  pub lat_index : ℤ
  pub zones : ℕ
  pub lon_index : ℕ

-- the point of these parts
abbrev pub point_at : Parity → (lat_index : ℤ) → (zones lon_index : ℕ) → Point
point_at parity lat_index zones lon_index =
    record { parity = parity; lat_index = lat_index; zones = zones; lon_index = lon_index }

-- the angle of k steps
abbrev pub steps : (k : ℤ) → (step : Fraction) → Fraction
steps k step = record { num = step.num *ℤ k; den = step.den }

-- one step: the degrees of a span over the number of zones and the 2^17 codes of a zone
abbrev pub step : (degrees zones : ℕ) → Fraction
step degrees zones = record { num = pos degrees; den = zones * codes_of_zone }

-- the number of latitude zones of a parity: 60 even, 59 odd
abbrev pub lat_zones : Parity → ℕ
lat_zones parity = 60 - parity_index parity

-- the number of longitude steps of the circle, with `zones` zones to a span
abbrev pub circle : (zones repeats : ℕ) → ℕ
circle zones repeats = zones * codes_of_zone * repeats

-- the latitude of an index
abbrev pub grid_latitude : (degrees : ℕ) → Parity → (lat_index : ℤ) → Fraction
grid_latitude degrees parity lat_index = steps lat_index (step degrees (lat_zones parity))

-- the longitude of an index of the circle: its steps in degrees, less 360 degrees from 180 up
abbrev pub grid_longitude : (degrees zones lon_index : ℕ) → Fraction
grid_longitude degrees zones lon_index =
    let den = zones * codes_of_zone in
    let num = degrees * lon_index in
    record { num = if nat_lt num (180 * den) then pos num else (pos num -ℤ pos (360 * den)); den = den }

abbrev pub latitude : Span → Point → Fraction
latitude span point = grid_latitude span.degrees point.parity point.lat_index

abbrev pub longitude : Span → Point → Fraction
longitude span point = grid_longitude span.degrees point.zones point.lon_index

-- the latitude of the index lies in -90 to 90 degrees
abbrev pub IsLatitude : (degrees : ℕ) → Parity → (lat_index : ℤ) → Type 0
IsLatitude degrees parity lat_index = IsWithin 90 (grid_latitude degrees parity lat_index)

-- a point of the grid: its latitude lies in -90 to 90 degrees, its zones are those at that latitude, and its
-- longitude index is on the circle
pub record IsGridPoint (span : Span) (point : Point) : Type 0 where
  pub north_south : IsLatitude span.degrees point.parity point.lat_index
  pub zones : point.zones ≡ lon_zones_at point.parity (latitude span point)
  pub east_west : point.lon_index < circle point.zones span.repeats

-- the grid has a point with these indices
abbrev pub HasPoint : Span → Parity → (lat_index : ℤ) → (lon_index : ℕ) → Type 0
HasPoint span parity lat_index lon_index =
    (zones : ℕ) × IsGridPoint span (point_at parity lat_index zones lon_index)

-- the code of a point: both indices modulo 2^17
abbrev pub code_of : Point → CodeNumbers
code_of point =
    record {
      lat = unsigned_abs (int_rem_euclid point.lat_index (pos codes_of_zone));
      lon = point.lon_index % codes_of_zone;
    }

-- the point has this code: each index and its number differ by a whole multiple of 2^17
pub record HasCode (point : Point) (code : CodeNumbers) : Type 0 where
  pub latitude : IsCongruent codes_of_zone point.lat_index (pos code.lat)
  pub longitude : IsCongruent codes_of_zone (pos point.lon_index) (pos code.lon)
