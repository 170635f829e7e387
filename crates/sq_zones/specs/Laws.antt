-- Laws of zone counts, as statements.
use Rattle.std.specs.Prelude.{◌↔◌, ℕ, IsTrue, ◌≡◌, ◌≤◌, ◌<◌}
use Rattle.sq_angle.specs.Fraction.{Fraction, ◌≃◌, ◌≼◌, magnitude}
use Rattle.sq_zones.specs.Zones.{zones_at, is_at_most, limit_at}

-- the test against a limit compares fractions: the latitude's magnitude with the limit
abbrev pub LimitsAsFractions : Type 0
LimitsAsFractions = (lat : Fraction) (limit : ℕ) → IsTrue (is_at_most lat limit) ↔ (magnitude lat ≼ limit_at limit)

-- latitudes of the same magnitude have the same zone count, for any form of their fractions
abbrev pub ZonesByValue : Type 0
ZonesByValue = (x y : Fraction) → 0 < x.den → 0 < y.den → magnitude x ≃ magnitude y → zones_at x ≡ zones_at y

-- the zone count stays equal or decreases with the distance from the equator
abbrev pub FewerTowardsPoles : Type 0
FewerTowardsPoles = (x y : Fraction) → 0 < x.den → 0 < y.den → magnitude x ≼ magnitude y → zones_at y ≤ zones_at x
