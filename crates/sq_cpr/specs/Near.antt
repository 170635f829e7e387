-- Near a reference (RTCA DO-260B, appendix on compact position reporting: local decoding; ICAO Doc 9871).
use Rattle.std.specs.Prelude.{ℕ, ◌*◌, ℤ, pos}
use Rattle.sq_angle.specs.Fraction.{Fraction, ◌≼◌, ◌≺◌, plus, minus}
use Rattle.sq_angle.specs.Angle.{degrees as degrees_of}
use Rattle.sq_angle.specs.Position.{lat_of, lon_of}
use Rattle.sq_angle.specs.Whole.{IsCongruent}
use Rattle.sq_angle.specs.declared.position.Position.{Position}
use Rattle.sq_cpr.specs.Span.{Span}
use Rattle.sq_cpr.specs.Grid.{Point, steps, step, lat_zones, circle, latitude}

-- r - h < x ≤ r + h
pub record IsNear (h r x : Fraction) : Type 0 where
  pub above : minus r h ≺ x
  pub at_most : x ≼ plus r h

-- r - h < x < r + h
pub record IsStrictlyNear (h r x : Fraction) : Type 0 where
  pub above : minus r h ≺ x
  pub below : x ≺ plus r h

-- half a zone in degrees, with `zones` zones to a span
abbrev pub half_zone : (degrees zones : ℕ) → Fraction
half_zone degrees zones = record { num = pos degrees; den = 2 * zones }

-- half the degrees of a span
abbrev pub half_span : (degrees : ℕ) → Fraction
half_span degrees = record { num = pos degrees; den = 2 }

-- x is the representative at r of the angles that differ from it by whole spans: r - W/2 < x ≤ r + W/2
abbrev pub IsRepresentative : (degrees : ℕ) → (r x : Fraction) → Type 0
IsRepresentative degrees r x = IsNear (half_span degrees) r x

-- the angle of an index, with `zones` zones to a span
abbrev pub angle_at : (degrees zones : ℕ) → (index : ℤ) → Fraction
angle_at degrees zones index = steps index (step degrees zones)

-- Some index that differs from this one by whole turns of 360 degrees has the property. A turn is the number of steps
-- of the circle.
abbrev pub OnSomeTurn : (circle index : ℕ) → (ℤ → Type 0) → Type 0
OnSomeTurn circle index P = (turned : ℤ) × IsCongruent circle turned (pos index) × P turned

-- the longitude of the index is near `lon`: within half a longitude zone, modulo 360 degrees
abbrev pub IsNearLongitude : Span → (zones : ℕ) → (lon : Fraction) → (index : ℕ) → Type 0
IsNearLongitude span zones lon index =
    OnSomeTurn (circle zones span.repeats) index
    (λ turned. IsNear (half_zone span.degrees zones) lon (angle_at span.degrees zones turned))

-- the longitude of the index lies less than half a zone from `lon`, modulo 360 degrees
abbrev pub IsStrictlyNearLongitude : Span → (zones : ℕ) → (lon : Fraction) → (index : ℕ) → Type 0
IsStrictlyNearLongitude span zones lon index =
    OnSomeTurn (circle zones span.repeats) index
    (λ turned. IsStrictlyNear (half_zone span.degrees zones) lon (angle_at span.degrees zones turned))

-- the point is near (lat, lon): within half a zone in both coordinates, where the zones are those of the point itself
pub record IsNearPoint (span : Span) (lat lon : Fraction) (point : Point) : Type 0 where
  pub north_south : IsNear (half_zone span.degrees (lat_zones point.parity)) lat (latitude span point)
  pub east_west : IsNearLongitude span point.zones lon point.lon_index

-- the point lies less than half a zone from (lat, lon) in both coordinates, where the zones are those of the point
-- itself
pub record IsStrictlyNearPoint (span : Span) (lat lon : Fraction) (point : Point) : Type 0 where
  pub north_south : IsStrictlyNear (half_zone span.degrees (lat_zones point.parity)) lat (latitude span point)
  pub east_west : IsStrictlyNearLongitude span point.zones lon point.lon_index

-- the point lies less than half a zone from a position in both coordinates
abbrev pub IsStrictlyNearPosition : Span → Position → Point → Type 0
IsStrictlyNearPosition span reference point =
    IsStrictlyNearPoint span (degrees_of (lat_of reference)) (degrees_of (lon_of reference)) point
