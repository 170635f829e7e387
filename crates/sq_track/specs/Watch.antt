-- Whether a place can be true: how far it is from a site, and how fast an aircraft came there.
use Rattle.std.specs.Prelude.{ℕ, ◌+◌, ◌-◌, ◌*◌, Bool, false, ◌&&◌, ◌||◌, min, nat_le, nat_lt, unsigned_abs, Option, Some, None}
use Rattle.sq_angle.specs.Angle.{degrees}
use Rattle.sq_angle.specs.Fraction.{Fraction, minus}
use Rattle.sq_angle.specs.Position.{lat_of, lon_of}
use Rattle.sq_angle.specs.declared.position.Position.{Position}
use Rattle.sq_zones.specs.Zones.{zones_at}
use Rattle.sq_track.specs.declared.contact.LastFix.{LastFix}
use Rattle.sq_track.specs.declared.watch.Miles.{Miles}

-- from one angle to another: so many parts of a degree, of which a degree has `parts`
abbrev pub gap : Fraction → Fraction → ℕ
gap x y = unsigned_abs (minus x y).num

abbrev pub parts : Fraction → Fraction → ℕ
parts x y = (minus x y).den

-- from one longitude to another, the shorter way round
abbrev pub round_gap : Fraction → Fraction → ℕ
round_gap x y = min (gap x y) (360 * parts x y - gap x y)

-- The way is longer than the miles, if a degree has so many miles.
abbrev pub is_longer : Miles → (a_degree way parts : ℕ) → Bool
is_longer miles a_degree way parts = nat_lt (miles.num * parts) (a_degree * way * miles.den)

-- the smaller zone count (NL) of two latitudes
abbrev pub fewer_zones : Fraction → Fraction → ℕ
fewer_zones x y = min (zones_at x) (zones_at y)

-- Two positions lie further apart than so many nautical miles: their latitudes by more than miles / 60 degrees, or
-- their longitudes by more than miles / NL degrees, if NL is at least 2.
abbrev pub are_apart : Miles → Position → Position → Bool
are_apart miles p q =
    let lat = degrees (lat_of p) in
    let lat' = degrees (lat_of q) in
    let lon = degrees (lon_of p) in
    let lon' = degrees (lon_of q) in
    is_longer miles 60 (gap lat lat') (parts lat lat')
    || nat_le 2 (fewer_zones lat lat') && is_longer miles (fewer_zones lat lat') (round_gap lon lon') (parts lon lon')

-- so many nautical miles
abbrev pub whole_miles : ℕ → Miles
whole_miles range = record { num = range; den = 1 }

-- the way at this speed (knots) in so many milliseconds, and a mile
abbrev pub way_at : (speed elapsed : ℕ) → Miles
way_at speed elapsed = record { num = speed * elapsed + 3600000; den = 3600000 }

-- The place is further from the site than the range.
abbrev pub is_beyond : (range : Option ℕ) → (site : Option Position) → Position → Bool
is_beyond (Some range) (Some site) place = are_apart (whole_miles range) site place
is_beyond range site place = false

-- The place is further from the one before it than an aircraft of this speed comes.
abbrev pub is_too_fast : (speed : Option ℕ) → (before : Option LastFix) → (moment : ℕ) → Position → Bool
is_too_fast (Some speed) (Some before) moment place =
    are_apart (way_at speed (moment - before.moment)) before.position place
is_too_fast speed before moment place = false
