-- The parts of the fields and of a squitter, as the calls of the same names return them.
use Rattle.std.specs.Prelude.{ℕ, Bool}
use Rattle.sq_message.specs.declared.air.AirFields.{AirFields}
use Rattle.sq_message.specs.declared.ground.GroundFields.{GroundFields}
use Rattle.sq_message.specs.declared.message.PositionMessage.{PositionMessage}
use Rattle.sq_message.specs.declared.other.Other.{Other}
use Rattle.sq_message.specs.declared.squitter.Me.{Me}
use Rattle.sq_message.specs.declared.squitter.Squitter.{Squitter}

-- the fields of an airborne position, other than the encoded position
pub record AirParts : Type 0 where
  pub type_code : ℕ
  pub status : ℕ
  pub flag : Bool
  pub altitude : ℕ
  pub time : Bool

abbrev pub air_parts : AirFields → AirParts
air_parts fields = record {
  type_code = fields.type_code;
  status = fields.status;
  flag = fields.flag;
  altitude = fields.altitude;
  time = fields.time;
}

-- the fields of a surface position, other than the encoded position
pub record GroundParts : Type 0 where
  pub type_code : ℕ
  pub movement : ℕ
  pub track_status : Bool
  pub track : ℕ
  pub time : Bool

abbrev pub ground_parts : GroundFields → GroundParts
ground_parts fields = record {
  type_code = fields.type_code;
  movement = fields.movement;
  track_status = fields.track_status;
  track = fields.track;
  time = fields.time;
}

-- an airborne position message
abbrev pub Airborne : Type 0
Airborne = PositionMessage AirFields

-- a surface position message
abbrev pub Surface : Type 0
Surface = PositionMessage GroundFields

-- the 56 bits of a message of kind other
abbrev pub raw_of : Other → ℕ
raw_of other = other.raw

-- the capability, the address and the message of a squitter
pub record SquitterParts : Type 0 where
  pub ca : ℕ
  pub address : ℕ
  pub me : Me

abbrev pub squitter_parts : Squitter → SquitterParts
squitter_parts squitter = record { ca = squitter.ca; address = squitter.address; me = squitter.me }
