-- The altitudes of airborne positions, read by one function.
use Rattle.sq_message.specs.declared.air.AirFields.{AirFields}
use Rattle.sq_message.specs.declared.air.Altitude.{Altitude}
use Rattle.sq_message.specs.Altitudes.{IsAltitude}
use Rattle.sq_message.specs.Parts.{air_parts}

-- a function that reads the altitude of every airborne position: there is one, and any two agree
pub record AltitudeReader : Type 0 where
  pub read : AirFields → Altitude
  pub reads : (fields : AirFields) → let parts = air_parts fields in
      IsAltitude parts.type_code parts.altitude (read fields)
