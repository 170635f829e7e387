-- The point of a grid to which a position rounds (RTCA DO-260B, appendix on compact position reporting: the encoding).
use Rattle.std.specs.Prelude.{ℤ, pos}
use Rattle.sq_angle.specs.Angle.{degrees as degrees_of}
use Rattle.sq_angle.specs.Fraction.{Fraction}
use Rattle.sq_angle.specs.Nearest.{IsNearest}
use Rattle.sq_angle.specs.Position.{lat_of, lon_of}
use Rattle.sq_angle.specs.Whole.{IsCongruent}
use Rattle.sq_angle.specs.declared.position.Position.{Position}
use Rattle.sq_cpr.specs.Span.{Span}
use Rattle.sq_cpr.specs.Grid.{Point, IsGridPoint, step, circle, lat_zones}

-- The position rounds to the point of the grid. The latitude index is the nearest number of latitude steps. The
-- nearest number of longitude steps differs from the longitude index by whole circles.
pub record RoundsTo (span : Span) (lat lon : Fraction) (point : Point) : Type 0 where
  pub of_grid : IsGridPoint span point
  pub north_south : IsNearest lat (step span.degrees (lat_zones point.parity)) point.lat_index
  pub east_west : (index : ℤ) × IsNearest lon (step span.degrees point.zones) index
      × IsCongruent (circle point.zones span.repeats) index (pos point.lon_index)

-- the position rounds to the point
abbrev pub PositionRoundsTo : Span → Position → Point → Type 0
PositionRoundsTo span x point =
    RoundsTo span (degrees_of (lat_of x)) (degrees_of (lon_of x)) point
