-- The fields of a squitter, as plain numbers.
use Rattle.std.specs.Prelude.{◌≡◌, ◌/◌, ◌^◌, ℕ, ℤ, pos}
use Rattle.sq_zones.specs.declared.parity.Parity.{Parity}
use Rattle.sq_zones.specs.Zones.{parity_index}
use Rattle.sq_cpr.specs.Code.{CodeNumbers, numbers_of}
use Rattle.sq_message.specs.declared.air.Altitude.{Altitude}
use Rattle.sq_message.specs.declared.air.Altitude.TheVariants as altitudes
use Rattle.sq_message.specs.declared.other.Other.{Other}
use Rattle.sq_message.specs.declared.squitter.Me.{Me}
use Rattle.sq_message.specs.declared.squitter.Me.TheVariants as kinds
use Rattle.sq_message.specs.declared.squitter.Squitter.{Squitter}
use Rattle.sq_message.specs.Altitudes.{IsAltitude}
use Rattle.sq_message.specs.Parts.{Airborne, Surface, AirParts, GroundParts, air_parts, ground_parts, raw_of, squitter_parts}
use Rattle.sq_message.specs.Spelling.{bit}
use Rattle.squitter_c.specs.declared.fields.PlainSquitter.{PlainSquitter}

-- the parity and the code of a position
pub record IsPlainPlace (parity : Parity) (code : CodeNumbers) (plain : PlainSquitter) : Type 0 where
  pub odd : plain.odd ≡ parity_index parity
  pub lat : plain.lat ≡ code.lat
  pub lon : plain.lon ≡ code.lon

-- 0 for none, 1 for feet, 2 for another form
abbrev pub IsPlainAltitude : Altitude → (form : ℕ) → (feet : ℤ) → Type 0
IsPlainAltitude altitudes.Missing form feet = (form ≡ 0) × (feet ≡ pos 0)
IsPlainAltitude (altitudes.Feet n) form feet = (form ≡ 1) × (feet ≡ n)
IsPlainAltitude (altitudes.Raw field) form feet = (form ≡ 2) × (feet ≡ pos 0)

-- the meaning of the altitude field of a type code
abbrev pub HasMeaning : (code field form : ℕ) → (feet : ℤ) → Type 0
HasMeaning code field form feet =
    (meaning : Altitude) × IsAltitude code field meaning × IsPlainAltitude meaning form feet

-- the fields of an airborne position, except its position
pub record IsPlainAirFields (fields : AirParts) (plain : PlainSquitter) : Type 0 where
  pub type_code : plain.type_code ≡ fields.type_code
  pub status : plain.status ≡ fields.status
  pub flag : plain.flag ≡ bit fields.flag
  pub altitude : plain.altitude ≡ fields.altitude
  pub meaning : HasMeaning fields.type_code fields.altitude plain.altitude_form plain.feet
  pub time : plain.time ≡ bit fields.time

-- an airborne position
pub record IsPlainAirborne (airborne : Airborne) (plain : PlainSquitter) : Type 0 where
  pub kind : plain.kind ≡ 1
  pub fields : IsPlainAirFields (air_parts airborne.fields) plain
  pub place : IsPlainPlace airborne.parity (numbers_of airborne.code) plain
  pub others : (plain.movement ≡ 0) × (plain.track_status ≡ 0) × (plain.track ≡ 0) × (plain.raw ≡ 0)

-- the fields of a surface position, except its position
pub record IsPlainGroundFields (fields : GroundParts) (plain : PlainSquitter) : Type 0 where
  pub type_code : plain.type_code ≡ fields.type_code
  pub movement : plain.movement ≡ fields.movement
  pub track_status : plain.track_status ≡ bit fields.track_status
  pub track : plain.track ≡ fields.track
  pub time : plain.time ≡ bit fields.time

-- the fields that only airborne positions have are 0
pub record HasNoAirFields (plain : PlainSquitter) : Type 0 where
  pub bits : (plain.status ≡ 0) × (plain.flag ≡ 0)
  pub altitude : (plain.altitude ≡ 0) × (plain.altitude_form ≡ 0) × (plain.feet ≡ pos 0)

-- a surface position
pub record IsPlainSurface (surface : Surface) (plain : PlainSquitter) : Type 0 where
  pub kind : plain.kind ≡ 2
  pub fields : IsPlainGroundFields (ground_parts surface.fields) plain
  pub place : IsPlainPlace surface.parity (numbers_of surface.code) plain
  pub others : HasNoAirFields plain × (plain.raw ≡ 0)

-- a message of another kind
pub record IsPlainOther (other : Other) (plain : PlainSquitter) : Type 0 where
  pub kind : plain.kind ≡ 0
  pub type_code : plain.type_code ≡ raw_of other / 2 ^ 51
  pub raw : plain.raw ≡ raw_of other
  pub place : (plain.odd ≡ 0) × (plain.lat ≡ 0) × (plain.lon ≡ 0) × (plain.time ≡ 0)
  pub air : HasNoAirFields plain
  pub ground : (plain.movement ≡ 0) × (plain.track_status ≡ 0) × (plain.track ≡ 0)

-- a message, by its kind
abbrev pub IsPlainMe : Me → PlainSquitter → Type 0
IsPlainMe (kinds.Airborne airborne) plain = IsPlainAirborne airborne plain
IsPlainMe (kinds.Surface surface) plain = IsPlainSurface surface plain
IsPlainMe (kinds.Other other) plain = IsPlainOther other plain

-- the squitter, field by field
pub record IsPlainSquitter (squitter : Squitter) (plain : PlainSquitter) : Type 0 where
  pub ca : plain.ca ≡ (squitter_parts squitter).ca
  pub address : plain.address ≡ (squitter_parts squitter).address
  pub me : IsPlainMe (squitter_parts squitter).me plain
