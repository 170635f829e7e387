-- The encoding of squitters as frames: the layouts of ICAO Doc 9871, registers 0,5 (airborne) and 0,6 (surface). ME
-- bit k is frame bit 32 + k.
use Rattle.std.specs.Prelude.{◌≡◌, ◌≢◌, ℕ, Bool, if◌then◌else◌, Result, MatchResult}
use Rattle.sq_bits.specs.declared.frame.Frame.{Frame}
use Rattle.sq_bits.specs.Frames.{field_of, frame_number}
use Rattle.sq_bits.specs.Parity.{IsMultiple, IsRemainder}
use Rattle.sq_zones.specs.declared.parity.Parity.{Parity}
use Rattle.sq_zones.specs.Zones.{parity_index}
use Rattle.sq_cpr.specs.Code.{CodeNumbers, numbers_of}
use Rattle.sq_message.specs.Kinds.{Kind, FieldsOf, InAir, OnGround, PositionOf}
use Rattle.sq_message.specs.Parts.{AirParts, GroundParts, air_parts, ground_parts, raw_of, squitter_parts}
use Rattle.sq_message.specs.declared.squitter.Me.{Me}
use Rattle.sq_message.specs.declared.squitter.Me.TheVariants as kinds
use Rattle.sq_message.specs.declared.squitter.Squitter.{Squitter}
use Rattle.sq_message.specs.declared.squitter.FrameFault.{FrameFault}
use Rattle.sq_message.specs.declared.squitter.FrameFault.TheVariants as faults

-- a Boolean as a one-bit field
abbrev pub bit : Bool → ℕ
bit b = if b then 1 else 0

-- the ME fields of an airborne position, other than the encoded position
pub record SpellsAirFields (f : Frame) (p : AirParts) : Type 0 where
  pub type_code : field_of f 33 5 ≡ p.type_code
  pub status : field_of f 38 2 ≡ p.status
  pub flag : field_of f 40 1 ≡ bit p.flag
  pub altitude : field_of f 41 12 ≡ p.altitude
  pub time : field_of f 53 1 ≡ bit p.time

-- the ME fields of a surface position, other than the encoded position
pub record SpellsGroundFields (f : Frame) (p : GroundParts) : Type 0 where
  pub type_code : field_of f 33 5 ≡ p.type_code
  pub movement : field_of f 38 7 ≡ p.movement
  pub track_status : field_of f 45 1 ≡ bit p.track_status
  pub track : field_of f 46 7 ≡ p.track
  pub time : field_of f 53 1 ≡ bit p.time

-- the ME fields of the encoded position, in both layouts: the F bit (0 even, 1 odd) and the numbers of the code
pub record SpellsPlace (f : Frame) (parity : Parity) (code : CodeNumbers) : Type 0 where
  pub parity_bit : field_of f 54 1 ≡ parity_index parity
  pub lat : field_of f 55 17 ≡ code.lat
  pub lon : field_of f 72 17 ≡ code.lon

-- the ME fields of a position of the kind, other than the encoded position
abbrev pub SpellsFields : (kind : Kind) → Frame → FieldsOf kind → Type 0
SpellsFields InAir f fields = SpellsAirFields f (air_parts fields)
SpellsFields OnGround f fields = SpellsGroundFields f (ground_parts fields)

-- the ME of a position of the kind
pub record SpellsPosition (kind : Kind) (f : Frame) (p : PositionOf kind) : Type 0 where
  pub fields : SpellsFields kind f p.fields
  pub place : SpellsPlace f p.parity (numbers_of p.code)

-- the ME of a squitter, by its kind
abbrev pub SpellsMe : Frame → Me → Type 0
SpellsMe f (kinds.Airborne a) = SpellsPosition InAir f a
SpellsMe f (kinds.Surface s) = SpellsPosition OnGround f s
SpellsMe f (kinds.Other o) = field_of f 33 56 ≡ raw_of o

-- the frame has a correct CRC and DF 17, and its fields hold the parts of the squitter
pub record Spells (f : Frame) (q : Squitter) : Type 0 where
  pub multiple : IsMultiple (frame_number f)
  pub format : field_of f 1 5 ≡ 17
  pub ca : field_of f 6 3 ≡ (squitter_parts q).ca
  pub address : field_of f 9 24 ≡ (squitter_parts q).address
  pub me : SpellsMe f (squitter_parts q).me

-- why a frame encodes no squitter: DF is not 17, or DF is 17 and the remainder is not 0
abbrev pub IsFault : Frame → FrameFault → Type 0
IsFault f (faults.NotDf17 format) = (field_of f 1 5 ≡ format) × (format ≢ 17)
IsFault f (faults.Parity remainder) = (field_of f 1 5 ≡ 17) × IsRemainder (frame_number f) remainder × (remainder ≢ 0)

-- the result of `read_frame`
abbrev pub IsReading : Frame → Result Squitter FrameFault → Type 0
IsReading f answer = MatchResult answer (Spells f) (IsFault f)
