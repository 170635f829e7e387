-- The zones of a position (RTCA DO-260B, appendix on compact position reporting), shifted south and west by half a
-- step. The angles of one zone then round to 2^17 consecutive indices, and no two of these have the same number in
-- the code.
use Rattle.std.specs.Prelude.{◌≡◌, ℕ, ◌*◌, ◌<◌, ℤ, pos, ◌+ℤ◌, ◌-ℤ◌, ◌*ℤ◌}
use Rattle.sq_angle.specs.Angle.{degrees as degrees_of}
use Rattle.sq_angle.specs.Fraction.{Fraction, ◌≼◌, ◌≺◌}
use Rattle.sq_angle.specs.Nearest.{half_steps}
use Rattle.sq_angle.specs.Position.{lat_of, lon_of}
use Rattle.sq_angle.specs.declared.position.Position.{Position}
use Rattle.sq_zones.specs.declared.parity.Parity.{Parity}
use Rattle.sq_cpr.specs.Span.{Span}
use Rattle.sq_cpr.specs.Grid.{Point, step, lat_zones, codes_of_zone}
use Rattle.sq_cpr.specs.Rounds.{RoundsTo}

-- half a step before the first index of the zone
abbrev pub zone_start : Fraction → ℤ → Fraction
zone_start step zone = half_steps (pos 2 *ℤ (pos codes_of_zone *ℤ zone) -ℤ pos 1) step

-- x lies in the zone: from half a step before its first index up to half a step before the next zone's
pub record IsInZone (x step : Fraction) (zone : ℤ) : Type 0 where
  pub from : zone_start step zone ≼ x
  pub below : x ≺ zone_start step (zone +ℤ pos 1)

-- x plus a number of turns of 360 degrees
abbrev pub turned : Fraction → ℤ → Fraction
turned x turns = record { num = x.num +ℤ pos (360 * x.den) *ℤ turns; den = x.den }

-- a latitude zone, counted from the equator, and a longitude zone, counted eastwards from the prime meridian
pub record ZonePair : Type 0 where
  pub lat : ℤ
  pub lon : ℕ

-- The position lies in these zones of the parity's grid. The number of longitude zones to a span is that of the point
-- to which the position rounds.
pub record IsInZones (span : Span) (parity : Parity) (lat lon : Fraction) (zones : ZonePair) : Type 0 where
  pub point : Point
  pub of_parity : point.parity ≡ parity
  pub rounds : RoundsTo span lat lon point
  pub north_south : IsInZone lat (step span.degrees (lat_zones parity)) zones.lat
  pub of_circle : zones.lon < point.zones * span.repeats
  pub east_west : (turns : ℤ) × IsInZone (turned lon turns) (step span.degrees point.zones) (pos zones.lon)

-- the position lies in these zones of the parity's grid
abbrev pub PositionIsInZones : Span → Parity → Position → ZonePair → Type 0
PositionIsInZones span parity position zones =
    IsInZones span parity (degrees_of (lat_of position)) (degrees_of (lon_of position)) zones
