-- Plain heads: the fields of a position squitter, except its position.
use Rattle.std.specs.Prelude.{◌≡◌, ◌<◌, ◌^◌, ℕ}
use Rattle.sq_message.specs.Kinds.{Kind, HeadParts, InAir, OnGround}
use Rattle.sq_message.specs.Parts.{air_parts, ground_parts}
use Rattle.sq_message.specs.Spelling.{bit}
use Rattle.sq_message.specs.TypeCodes.{IsAirCode, IsGroundCode}
use Rattle.squitter_c.specs.declared.heads.PlainAirHead.{PlainAirHead}
use Rattle.squitter_c.specs.declared.heads.PlainGroundHead.{PlainGroundHead}
use Rattle.squitter_c.specs.Plain.{IsFlag}

-- each field is in its range
pub record PlainIsAirHead (plain : PlainAirHead) : Type 0 where
  pub address : plain.address < 2 ^ 24
  pub ca : plain.ca < 8
  pub type_code : IsAirCode plain.type_code
  pub status : plain.status < 4
  pub altitude : plain.altitude < 4096
  pub flag : IsFlag plain.flag
  pub time : IsFlag plain.time

pub record PlainIsGroundHead (plain : PlainGroundHead) : Type 0 where
  pub address : plain.address < 2 ^ 24
  pub ca : plain.ca < 8
  pub type_code : IsGroundCode plain.type_code
  pub movement : plain.movement < 128
  pub track : plain.track < 128
  pub track_status : IsFlag plain.track_status
  pub time : IsFlag plain.time

-- the head has these fields
pub record IsAirHead (plain : PlainAirHead) (head : HeadParts InAir) : Type 0 where
  pub ca : head.ca ≡ plain.ca
  pub address : head.address ≡ plain.address
  pub type_code : (air_parts head.fields).type_code ≡ plain.type_code
  pub status : (air_parts head.fields).status ≡ plain.status
  pub altitude : (air_parts head.fields).altitude ≡ plain.altitude
  pub flag : bit (air_parts head.fields).flag ≡ plain.flag
  pub time : bit (air_parts head.fields).time ≡ plain.time

pub record IsGroundHead (plain : PlainGroundHead) (head : HeadParts OnGround) : Type 0 where
  pub ca : head.ca ≡ plain.ca
  pub address : head.address ≡ plain.address
  pub type_code : (ground_parts head.fields).type_code ≡ plain.type_code
  pub movement : (ground_parts head.fields).movement ≡ plain.movement
  pub track : (ground_parts head.fields).track ≡ plain.track
  pub track_status : bit (ground_parts head.fields).track_status ≡ plain.track_status
  pub time : bit (ground_parts head.fields).time ≡ plain.time

-- a plain head of the kind
abbrev pub PlainHead : Kind → Type 0
PlainHead InAir = PlainAirHead
PlainHead OnGround = PlainGroundHead

-- the number of a head's parity
abbrev pub odd_of : (kind : Kind) → PlainHead kind → ℕ
odd_of InAir plain = plain.odd
odd_of OnGround plain = plain.odd

-- each field is in its range, and so is the parity
abbrev pub PlainIsHead : (kind : Kind) → PlainHead kind → Type 0
PlainIsHead InAir plain = PlainIsAirHead plain × IsFlag plain.odd
PlainIsHead OnGround plain = PlainIsGroundHead plain × IsFlag plain.odd

-- the head has these fields
abbrev pub IsHead : (kind : Kind) → PlainHead kind → HeadParts kind → Type 0
IsHead InAir plain head = IsAirHead plain head
IsHead OnGround plain head = IsGroundHead plain head
