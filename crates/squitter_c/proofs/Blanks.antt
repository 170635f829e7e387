-- Values for reads past the end of an array.
use Rattle.std.proofs.Common.{pos}
use Rattle.squitter_c.specs.declared.e7.DegreesE7.{DegreesE7}
use Rattle.squitter_c.specs.declared.fields.PlainSquitter.{PlainSquitter}

-- zero units of 10^-7 degree
abbrev pub no_degrees : DegreesE7
no_degrees = record { lat = pos 0; lon = pos 0 }

-- all fields 0
abbrev pub no_fields : PlainSquitter
no_fields = record {
  raw = 0;
  address = 0;
  lat = 0;
  lon = 0;
  feet = pos 0;
  altitude = 0;
  altitude_form = 0;
  kind = 0;
  ca = 0;
  type_code = 0;
  odd = 0;
  time = 0;
  status = 0;
  flag = 0;
  movement = 0;
  track_status = 0;
  track = 0;
}
