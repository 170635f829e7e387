-- Laws of grids, codes and zones, as statements.
use Rattle.std.specs.Prelude.{◌≡◌, ◌↔◌, ◌<◌}
use Rattle.sq_angle.specs.Fraction.{Fraction}
use Rattle.sq_angle.specs.Bounds.{IsPosition}
use Rattle.sq_angle.specs.Whole.{ExactlyOne}
use Rattle.sq_zones.specs.declared.parity.Parity.{Parity}
use Rattle.sq_cpr.specs.Code.{CodeNumbers}
use Rattle.sq_cpr.specs.Span.{Span}
use Rattle.sq_cpr.specs.Grid.{Point, IsGridPoint, HasCode, codes_of_zone, code_of, latitude, longitude}
use Rattle.sq_cpr.specs.Rounds.{RoundsTo}
use Rattle.sq_cpr.specs.Zones.{ZonePair, IsInZones}

-- a position rounds to exactly one point of each parity's grid
abbrev pub RoundsToOne : Span → Type 0
RoundsToOne span =
    (parity : Parity) (lat lon : Fraction) → 0 < lat.den → 0 < lon.den → IsPosition lat lon
    → ExactlyOne (λ (point : Point). (point.parity ≡ parity) × RoundsTo span lat lon point)

-- a point's own position rounds to that point
abbrev pub RoundsToItself : Span → Type 0
RoundsToItself span =
    (point : Point) → IsGridPoint span point
    → RoundsTo span (latitude span point) (longitude span point) point

-- a position lies in exactly one pair of zones of each parity's grid
abbrev pub OnePairOfZones : Span → Type 0
OnePairOfZones span =
    (parity : Parity) (lat lon : Fraction) → 0 < lat.den → 0 < lon.den → IsPosition lat lon
    → ExactlyOne (IsInZones span parity lat lon)

-- if two positions lie in the same zones, the points to which they round have equal codes exactly if the points are
-- equal
abbrev pub SameZones : Span → Type 0
SameZones span =
    (parity : Parity) (lat lon lat' lon' : Fraction) (zones : ZonePair) (p q : Point)
    → IsInZones span parity lat lon zones → IsInZones span parity lat' lon' zones
    → p.parity ≡ parity → q.parity ≡ parity
    → RoundsTo span lat lon p → RoundsTo span lat' lon' q
    → (code_of p ≡ code_of q) ↔ (p ≡ q)

-- two points of a grid are equal exactly if their parities and both indices are equal
abbrev pub SamePoints : Span → Type 0
SamePoints span =
    (p q : Point) → IsGridPoint span p → IsGridPoint span q
    → (p ≡ q) ↔ ((p.parity ≡ q.parity) × (p.lat_index ≡ q.lat_index) × (p.lon_index ≡ q.lon_index))

-- a point has exactly one code of 17-bit numbers: its own
abbrev pub OneCode : Type 0
OneCode =
    (point : Point) (code : CodeNumbers)
    → (HasCode point code × (code.lat < codes_of_zone) × (code.lon < codes_of_zone)) ↔ (code_of point ≡ code)
