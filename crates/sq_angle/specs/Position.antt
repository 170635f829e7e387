-- A position's parts.
use Rattle.sq_angle.specs.declared.angle.Angle.{Angle}
use Rattle.sq_angle.specs.Angle.{degrees}
use Rattle.sq_angle.specs.Fraction.{◌≃◌}
use Rattle.sq_angle.specs.declared.position.Position.{Position}

-- the latitude, north of the equator
abbrev pub lat_of : Position → Angle
lat_of p = p.lat

-- the longitude, east of the prime meridian
abbrev pub lon_of : Position → Angle
lon_of p = p.lon

-- the two positions have latitudes of the same value and longitudes of the same value
abbrev pub HaveEqualAngles : Position → Position → Type 0
HaveEqualAngles x y = (degrees (lat_of x) ≃ degrees (lat_of y)) × (degrees (lon_of x) ≃ degrees (lon_of y))
