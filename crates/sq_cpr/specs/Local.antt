-- Decoding near a reference (RTCA DO-260B, appendix on compact position reporting: local decoding; ICAO Doc 9871).
use Rattle.std.specs.Prelude.{◌≡◌, ℕ, ℤ, pos, Result, Ok, Err}
use Rattle.sq_angle.specs.Angle.{degrees as degrees_of}
use Rattle.sq_angle.specs.Fraction.{Fraction}
use Rattle.sq_angle.specs.Position.{lat_of, lon_of}
use Rattle.sq_angle.specs.declared.position.Position.{Position}
use Rattle.sq_angle.specs.Whole.{IsCongruent}
use Rattle.sq_zones.specs.declared.parity.Parity.{Parity}
use Rattle.sq_cpr.specs.declared.faults.LocalFault.{LocalFault}
use Rattle.sq_cpr.specs.declared.faults.LocalFault.TheVariants.{OutOfRange}
use Rattle.sq_cpr.specs.Code.{CodeNumbers}
use Rattle.sq_cpr.specs.Span.{Span}
use Rattle.sq_cpr.specs.Grid.{Point, IsGridPoint, HasCode, IsLatitude, codes_of_zone, lat_zones, grid_latitude}
use Rattle.sq_cpr.specs.Near.{IsNear, half_zone, IsNearPoint}

-- the latitude index has the code and is near `lat`
pub record IsNearLatitude (degrees : ℕ) (parity : Parity) (lat : Fraction) (code : ℕ) (index : ℤ) : Type 0 where
  pub has_code : IsCongruent codes_of_zone index (pos code)
  pub near : IsNear (half_zone degrees (lat_zones parity)) lat (grid_latitude degrees parity index)

-- a point of the parity's grid with this code that is near (lat, lon)
pub record IsLocalPoint (span : Span) (code : CodeNumbers) (parity : Parity) (lat lon : Fraction)
    (point : Point) : Type 0 where
  pub of_grid : IsGridPoint span point
  pub of_parity : point.parity ≡ parity
  pub has_code : HasCode point code
  pub near : IsNearPoint span lat lon point

-- the result of decoding a code near (lat, lon): a near point with the code, or `OutOfRange` if the near latitude
-- lies outside -90 to 90 degrees
abbrev pub LocalAnswer : Span → CodeNumbers → Parity → (lat lon : Fraction) → Result Point LocalFault → Type 0
LocalAnswer span code parity lat lon (Ok point) = IsLocalPoint span code parity lat lon point
LocalAnswer span code parity lat lon (Err OutOfRange) =
    (index : ℤ) × IsNearLatitude span.degrees parity lat code.lat index × ¬ IsLatitude span.degrees parity index

-- the result of decoding a code near a position
abbrev pub LocalAnswerNear : Span → CodeNumbers → Parity → Position → Result Point LocalFault → Type 0
LocalAnswerNear span code parity reference answer =
    LocalAnswer span code parity (degrees_of (lat_of reference)) (degrees_of (lon_of reference)) answer
