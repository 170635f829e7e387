-- The zones that a place lies in.
use Rattle.std.specs.Prelude.{◌≡◌, ◌+◌, ◌*◌, Result, pos, ◌+ℤ◌, ◌*ℤ◌}
use Rattle.sq_bits.specs.declared.frame.Frame.{Frame}
use Rattle.sq_zones.specs.Zones.{parity_index, zones_at}
use Rattle.sq_cpr.specs.Span.{Span, air, ground}
use Rattle.sq_cpr.specs.Grid.{Point, code_of, codes_of_zone, lat_zones, latitude}
use Rattle.sq_message.specs.declared.place.Place.{Place}
use Rattle.sq_message.specs.declared.place.Place.TheVariants.{Air, Ground}
use Rattle.squitter_c.specs.declared.faults.Fault.{Fault}
use Rattle.squitter_c.specs.declared.faults.Reason.{Reason}
use Rattle.squitter_c.specs.declared.plain.PlainPosition.{PlainPosition}
use Rattle.squitter_c.specs.declared.zones.PlainZones.{PlainZones}
use Rattle.squitter_c.specs.Decoding.{IsLocalAnswer}
use Rattle.squitter_c.specs.Faults.{Tells, as_it_is}

-- the zones of a point of a span's grid: each index is 2^17 times the index of its zone, plus the code
pub record AreZonesOf (span : Span) (point : Point) (zones : PlainZones) : Type 0 where
  pub degrees : zones.degrees ≡ span.degrees
  pub odd : zones.odd ≡ parity_index point.parity
  pub lat_zones : zones.lat_zones ≡ lat_zones point.parity
  pub lat_zone : point.lat_index ≡ pos codes_of_zone *ℤ zones.lat_zone +ℤ pos (code_of point).lat
  pub zone_count : zones.zone_count ≡ zones_at (latitude span point)
  pub lon_zones : zones.lon_zones ≡ point.zones
  pub lon_zone : point.lon_index ≡ codes_of_zone * zones.lon_zone + (code_of point).lon

-- the zones of a place, in the air or on the ground
abbrev pub AreZonesOfPlace : Place → PlainZones → Type 0
AreZonesOfPlace (Air point) zones = AreZonesOf air point zones
AreZonesOfPlace (Ground point) zones = AreZonesOf ground point zones

-- the zones of a place are written, or the fault is returned
abbrev pub TellsZones : Result Place Reason → (old new : PlainZones) → Fault → Type 0
TellsZones answer old new fault = Tells AreZonesOfPlace as_it_is answer old new fault

-- the result of the zones of a frame's place near a reference
abbrev pub AreLocalZones : Frame → PlainPosition → (old new : PlainZones) → Fault → Type 0
AreLocalZones frame reference old new fault =
    (answer : Result Place Reason) × IsLocalAnswer frame reference answer × TellsZones answer old new fault
