-- The places of squitters: decoding their codes to points, and sending a point (RTCA DO-260B, appendix on compact
-- position reporting; ICAO Doc 9871).
use Rattle.std.specs.Prelude.{◌≡◌, ◌≢◌, ◌⊎◌, ⊤, Option, None, Some, Result, Ok, Err}
use Rattle.sq_angle.specs.declared.position.Position.{Position}
use Rattle.sq_angle.specs.Angle.{degrees}
use Rattle.sq_angle.specs.Fraction.{Fraction}
use Rattle.sq_angle.specs.Position.{lat_of, lon_of}
use Rattle.sq_zones.specs.declared.parity.Parity.{Parity}
use Rattle.sq_cpr.specs.declared.code.Code.{Code}
use Rattle.sq_cpr.specs.declared.faults.LocalFault.{LocalFault}
use Rattle.sq_cpr.specs.declared.faults.LocalFault.TheVariants as locals
use Rattle.sq_cpr.specs.declared.faults.PairFault.{PairFault}
use Rattle.sq_cpr.specs.declared.faults.PairFault.TheVariants as pairs
use Rattle.sq_cpr.specs.Code.{numbers_of}
use Rattle.sq_cpr.specs.Span.{air, ground}
use Rattle.sq_cpr.specs.Grid.{Point, latitude, longitude}
use Rattle.sq_cpr.specs.Local.{LocalAnswerNear}
use Rattle.sq_cpr.specs.Pair.{CodePair, of_parity, AirPairAnswer, PairAnswerAt}
use Rattle.sq_message.specs.declared.squitter.Me.{Me}
use Rattle.sq_message.specs.declared.squitter.Me.TheVariants as kinds
use Rattle.sq_message.specs.declared.place.Place.{Place}
use Rattle.sq_message.specs.declared.place.Place.TheVariants.{Air, Ground}
use Rattle.sq_message.specs.declared.place.PlaceFault.{PlaceFault}
use Rattle.sq_message.specs.declared.place.PlaceFault.TheVariants.{NotPosition, OtherAddress, OtherKind, SameParity}
use Rattle.sq_message.specs.declared.place.PlaceFault.TheVariants.{NoSite, OutOfRange, ZoneCounts}
use Rattle.sq_message.specs.Kinds.{Kind, HeadParts, InAir, OnGround, PositionOf, me_at, place_at, span_of}
use Rattle.sq_message.specs.Parts.{SquitterParts}
use Rattle.sq_message.specs.Sending.{IsSquitterOf}

-- the latitude of a place's point
abbrev pub place_latitude : Place → Fraction
place_latitude (Air point) = latitude air point
place_latitude (Ground point) = latitude ground point

-- the longitude of a place's point
abbrev pub place_longitude : Place → Fraction
place_longitude (Air point) = longitude air point
place_longitude (Ground point) = longitude ground point

-- the position has this latitude, north of the equator, and this longitude, east of the prime meridian
pub record IsAt (north east : Fraction) (position : Position) : Type 0 where
  pub lat : degrees (lat_of position) ≡ north
  pub lon : degrees (lon_of position) ≡ east

-- the position has the place's latitude and longitude
abbrev pub IsPositionOf : Place → Position → Type 0
IsPositionOf place position = IsAt (place_latitude place) (place_longitude place) position

-- an airborne or a surface position
abbrev pub IsPosition : Me → Type 0
IsPosition (kinds.Airborne airborne) = ⊤
IsPosition (kinds.Surface surface) = ⊤
IsPosition (kinds.Other other) = ⊥

-- the message and the place are both air or both ground
abbrev pub Fits : Me → Place → Type 0
Fits (kinds.Airborne airborne) (Air point) = ⊤
Fits (kinds.Airborne airborne) (Ground point) = ⊥
Fits (kinds.Surface surface) (Air point) = ⊥
Fits (kinds.Surface surface) (Ground point) = ⊤
Fits (kinds.Other other) place = ⊥

-- the head of a squitter with this position message
abbrev pub head_at : (kind : Kind) → SquitterParts → PositionOf kind → HeadParts kind
head_at kind squitter position =
    record { ca = squitter.ca; address = squitter.address; fields = position.fields }

-- `sent` has the head of the squitter, and the parity and the code of a point of the squitter's kind
abbrev pub IsSentAtPoint : Kind → SquitterParts → Point → SquitterParts → Type 0
IsSentAtPoint kind squitter point sent =
    (position : PositionOf kind) × (squitter.me ≡ me_at kind position)
    × IsSquitterOf kind (head_at kind squitter position) point sent

-- `sent` has the head of the squitter, and the parity and the code of a place of the squitter's kind
abbrev pub IsSentAt : SquitterParts → Place → SquitterParts → Type 0
IsSentAt squitter (Air point) sent = IsSentAtPoint InAir squitter point sent
IsSentAt squitter (Ground point) sent = IsSentAtPoint OnGround squitter point sent

-- an error of local decoding, as a place error
abbrev pub of_local : LocalFault → PlaceFault
of_local locals.OutOfRange = OutOfRange

-- an error of pair decoding, as a place error
abbrev pub of_pair : PairFault → PlaceFault
of_pair pairs.OutOfRange = OutOfRange
of_pair (pairs.ZoneCounts even odd) = ZoneCounts even odd

-- a decoder's result, as a place of this kind or a place error
abbrev pub place_of : {Fault : Type 0} → (Point → Place) → (Fault → PlaceFault) → Result Point Fault
    → Result Place PlaceFault
place_of kind named (Ok point) = Ok (kind point)
place_of kind named (Err fault) = Err (named fault)

-- the result of decoding a position message near a reference, by its code, span and parity
abbrev pub IsLocalPlaceOf : (kind : Kind) → PositionOf kind → Position → Result Place PlaceFault → Type 0
IsLocalPlaceOf kind position reference answer = (found : Result Point LocalFault)
    × LocalAnswerNear (span_of kind) (numbers_of position.code) position.parity reference found
    × (answer ≡ place_of (place_at kind) of_local found)

-- the result of decoding a message near a reference
abbrev pub IsLocalPlace : Me → Position → Result Place PlaceFault → Type 0
IsLocalPlace (kinds.Airborne airborne) reference answer = IsLocalPlaceOf InAir airborne reference answer
IsLocalPlace (kinds.Surface surface) reference answer = IsLocalPlaceOf OnGround surface reference answer
IsLocalPlace (kinds.Other other) reference answer = answer ≡ Err NotPosition

-- two codes of different parity as an even and an odd one; `newest` is the parity of the newer
abbrev pub pair_by_parity : (newest : Parity) → (older newer : Code) → CodePair
pair_by_parity newest older newer = record {
  even = numbers_of (of_parity newest newer older);
  odd = numbers_of (of_parity newest older newer);
  newest = newest;
}

-- The result for two positions of one kind and different parity. In the air it is that of the codes; on the ground it
-- is `NoSite` without a site, and otherwise that of the codes at the site.
abbrev pub IsPairPlaceOf : (kind : Kind) → (older newer : PositionOf kind) → Option Position → Result Place PlaceFault
    → Type 0
IsPairPlaceOf InAir older newer site answer =
    (found : Result Point PairFault) × AirPairAnswer (pair_by_parity newer.parity older.code newer.code) found
    × (answer ≡ place_of Air of_pair found)
IsPairPlaceOf OnGround older newer None answer = answer ≡ Err NoSite
IsPairPlaceOf OnGround older newer (Some site) answer =
    (found : Result Point PairFault)
    × PairAnswerAt ground (pair_by_parity newer.parity older.code newer.code) site found
    × (answer ≡ place_of Ground of_pair found)

-- the result for two positions of one kind: `SameParity` if their parities are equal
abbrev pub IsPlaceOfOneKind : (kind : Kind) → (older newer : PositionOf kind) → Option Position
    → Result Place PlaceFault → Type 0
IsPlaceOfOneKind kind older newer site answer =
    (older.parity ≡ newer.parity → answer ≡ Err SameParity)
    × (older.parity ≢ newer.parity → IsPairPlaceOf kind older newer site answer)

-- the result for two positions of one address
abbrev pub IsPlaceOfOneAddress : (older newer : Me) → Option Position → Result Place PlaceFault → Type 0
IsPlaceOfOneAddress (kinds.Airborne older) (kinds.Airborne newer) site answer =
    IsPlaceOfOneKind InAir older newer site answer
IsPlaceOfOneAddress (kinds.Surface older) (kinds.Surface newer) site answer =
    IsPlaceOfOneKind OnGround older newer site answer
IsPlaceOfOneAddress (kinds.Airborne older) (kinds.Surface newer) site answer = answer ≡ Err OtherKind
IsPlaceOfOneAddress (kinds.Surface older) (kinds.Airborne newer) site answer = answer ≡ Err OtherKind
IsPlaceOfOneAddress (kinds.Airborne older) (kinds.Other newer) site answer = ⊥
IsPlaceOfOneAddress (kinds.Surface older) (kinds.Other newer) site answer = ⊥
IsPlaceOfOneAddress (kinds.Other older) newer site answer = ⊥

-- The result of decoding two squitters as a pair: the first error that applies, or the place of the newer.
pub record IsPairPlace (older newer : SquitterParts) (site : Option Position)
    (answer : Result Place PlaceFault) : Type 0 where
  pub not_positions : ¬ (IsPosition older.me × IsPosition newer.me) → answer ≡ Err NotPosition
  pub other_address : IsPosition older.me × IsPosition newer.me → older.address ≢ newer.address
      → answer ≡ Err OtherAddress
  pub same_address : IsPosition older.me × IsPosition newer.me → older.address ≡ newer.address
      → IsPlaceOfOneAddress older.me newer.me site answer

-- the squitter decodes to this place near some reference, or as the newer of some pair
abbrev pub IsDecoded : SquitterParts → Place → Type 0
IsDecoded squitter place =
    ((reference : Position) × IsLocalPlace squitter.me reference (Ok place))
    ⊎ ((older : SquitterParts) × (site : Option Position) × IsPairPlace older squitter site (Ok place))
