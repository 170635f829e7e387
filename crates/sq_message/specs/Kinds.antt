-- The two kinds of position squitter, airborne and surface (ICAO Doc 9871, registers 0,5 and 0,6), and what differs
-- between them.
use Rattle.sq_zones.specs.declared.parity.Parity.{Parity}
use Rattle.sq_cpr.specs.declared.code.Code.{Code}
use Rattle.sq_cpr.specs.Span.{Span, air, ground}
use Rattle.sq_cpr.specs.Grid.{Point}
use Rattle.sq_message.specs.declared.air.AirFields.{AirFields}
use Rattle.sq_message.specs.declared.ground.GroundFields.{GroundFields}
use Rattle.sq_message.specs.declared.message.PositionMessage.{PositionMessage}
use Rattle.sq_message.specs.declared.squitter.Me.{Me}
use Rattle.sq_message.specs.declared.squitter.Me.TheVariants as kinds
use Rattle.sq_message.specs.declared.place.Place.{Place}
use Rattle.sq_message.specs.declared.place.Place.TheVariants.{Air, Ground}
use Rattle.sq_message.specs.Heads.{HeadOf}
use Rattle.sq_message.specs.Parts.{SquitterParts}

-- airborne or surface
pub data Kind : Type 0 where
  InAir : Kind
  OnGround : Kind

-- the span of the kind's grids
abbrev pub span_of : Kind → Span
span_of InAir = air
span_of OnGround = ground

-- a point of the kind's grids, as a place
abbrev pub place_at : Kind → Point → Place
place_at InAir = Air
place_at OnGround = Ground

-- the fields of a position message of the kind, other than the encoded position
abbrev pub FieldsOf : Kind → Type 0
FieldsOf InAir = AirFields
FieldsOf OnGround = GroundFields

-- a position message of the kind
abbrev pub PositionOf : Kind → Type 0
PositionOf kind = PositionMessage (FieldsOf kind)

-- everything in a position squitter of the kind except the encoded position
abbrev pub HeadParts : Kind → Type 0
HeadParts kind = HeadOf (FieldsOf kind)

-- a position message of the kind, as an ME field
abbrev pub me_at : (kind : Kind) → PositionOf kind → Me
me_at InAir = kinds.Airborne
me_at OnGround = kinds.Surface

-- the message with the fields of a head, a parity and a code
abbrev pub me_of : (kind : Kind) → HeadParts kind → Parity → Code → Me
me_of kind head parity code = me_at kind (record { parity = parity; code = code; fields = head.fields })

-- the squitter with a head, a parity and a code
abbrev pub squitter_of : (kind : Kind) → HeadParts kind → Parity → Code → SquitterParts
squitter_of kind head parity code =
    record { ca = head.ca; address = head.address; me = me_of kind head parity code }

-- the position message with its fields converted to those of the kind
abbrev pub position_of : {Fields : Type 0} → (kind : Kind) → (Fields → FieldsOf kind) → PositionMessage Fields
    → PositionOf kind
position_of kind fields position =
    record { parity = position.parity; code = position.code; fields = fields position.fields }

-- the head with its fields converted to those of the kind
abbrev pub head_of : {Fields : Type 0} → (kind : Kind) → (Fields → FieldsOf kind) → HeadOf Fields → HeadParts kind
head_of kind fields head = record { ca = head.ca; address = head.address; fields = fields head.fields }
