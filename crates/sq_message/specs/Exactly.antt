-- Exact conditions for premises and results, so that none can become vacuous unnoticed.
use Rattle.std.specs.Prelude.{◌≡◌, ◌≢◌, ◌↔◌, ◌≤◌, ℕ, Option, Result, Err, Some, Ok}
use Rattle.sq_bits.specs.declared.frame.Frame.{Frame}
use Rattle.sq_bits.specs.Frames.{IsFrame}
use Rattle.sq_angle.specs.declared.position.Position.{Position}
use Rattle.sq_angle.specs.Angle.{degrees}
use Rattle.sq_angle.specs.Position.{lat_of, lon_of}
use Rattle.sq_angle.specs.Whole.{ExactlyOne}
use Rattle.sq_zones.specs.declared.parity.Parity.{Parity}
use Rattle.sq_cpr.specs.declared.code.Code.{Code}
use Rattle.sq_cpr.specs.Code.{numbers_of}
use Rattle.sq_cpr.specs.Grid.{Point, code_of}
use Rattle.sq_cpr.specs.Near.{IsStrictlyNearPoint, IsStrictlyNearPosition}
use Rattle.sq_cpr.specs.Slow.{IsPointWithin}
use Rattle.sq_cpr.specs.Span.{ground}
use Rattle.sq_cpr.specs.Zones.{PositionIsInZones}
use Rattle.sq_cpr.specs.Pair.{of_parity}
use Rattle.sq_message.specs.declared.air.Altitude.{Altitude}
use Rattle.sq_message.specs.declared.air.Altitude.TheVariants.{Missing, Raw}
use Rattle.sq_message.specs.declared.place.Place.{Place}
use Rattle.sq_message.specs.declared.place.PlaceFault.{PlaceFault}
use Rattle.sq_message.specs.declared.place.PlaceFault.TheVariants.{NotPosition, OtherAddress}
use Rattle.sq_message.specs.Altitudes.{IsAltitude, IsOtherForm}
use Rattle.sq_message.specs.Kinds.{Kind, HeadParts, squitter_of, InAir, OnGround, span_of}
use Rattle.sq_message.specs.Parts.{SquitterParts, squitter_parts}
use Rattle.sq_message.specs.Places.{IsPairPlace, IsPlaceOfOneAddress, IsPosition, IsDecoded, IsLocalPlace, IsSentAt}
use Rattle.sq_message.specs.Sending.{IsSquitterOf}
use Rattle.sq_message.specs.Headline.{LieAt, IsReadAsPair, IsReadNear}
use Rattle.sq_message.specs.declared.squitter.Squitter.{Squitter}
use Rattle.sq_message.specs.Calls.{HasNoPlaceNear, HaveNoPlace, IsAnswerNear, IsAnswerOfPair, IsPlaceOfNewer}
use Rattle.sq_message.specs.Calls.{IsSentAgain}
use Rattle.sq_message.specs.Spelling.{IsReading, Spells}

-- Up to type code 18, a field of 0 is `Missing`, and any other field is `Raw` exactly if Q is 0. From 20 on every
-- field is `Raw`.
pub record AltitudeExactly : Type 0 where
  pub missing : (code : ℕ) (meaning : Altitude) → code ≤ 18 → IsAltitude code 0 meaning ↔ (meaning ≡ Missing)
  pub other_form : (code field : ℕ) → code ≤ 18 → field ≢ 0 → IsAltitude code field (Raw field) ↔ IsOtherForm field
  pub height : (code field : ℕ) (meaning : Altitude) → 20 ≤ code → IsAltitude code field meaning
      ↔ (meaning ≡ Raw field)

-- a squitter is sent from a point exactly if it has the head, the point's parity and a code with the point's numbers
abbrev pub SquitterOfExactly : Type 0
SquitterOfExactly =
    (kind : Kind) (head : HeadParts kind) (point : Point) (squitter : SquitterParts)
    → IsSquitterOf kind head point squitter
    ↔ ((code : Code) × (squitter ≡ squitter_of kind head point.parity code) × (numbers_of code ≡ code_of point))

-- The results of a pair. If one is no position, it is only `NotPosition`. If the addresses differ, it is only
-- `OtherAddress`. With one address they are those of the two messages.
pub record PairPlaceExactly : Type 0 where
  pub not_positions : (older newer : SquitterParts) (site : Option Position) (answer : Result Place PlaceFault)
      → ¬ (IsPosition older.me × IsPosition newer.me)
      → IsPairPlace older newer site answer ↔ (answer ≡ Err NotPosition)
  pub other_address : (older newer : SquitterParts) (site : Option Position) (answer : Result Place PlaceFault)
      → IsPosition older.me × IsPosition newer.me → older.address ≢ newer.address
      → IsPairPlace older newer site answer ↔ (answer ≡ Err OtherAddress)
  pub same_address : (older newer : SquitterParts) (site : Option Position) (answer : Result Place PlaceFault)
      → IsPosition older.me × IsPosition newer.me → older.address ≡ newer.address
      → IsPairPlace older newer site answer ↔ IsPlaceOfOneAddress older.me newer.me site answer

-- ---- the premises of the headline

-- a place that local decoding gives for a squitter, or pair decoding for the newer of a pair, is decoded
-- (`IsDecoded`)
pub record DecodedByCalls : Type 0 where
  pub near : (squitter : SquitterParts) (reference : Position) (place : Place)
      → IsLocalPlace squitter.me reference (Ok place) → IsDecoded squitter place
  pub pair : (older newer : SquitterParts) (site : Option Position) (place : Place)
      → IsPairPlace older newer site (Ok place) → IsDecoded newer place

-- a position lies in exactly one pair of zones of each parity's grid
abbrev pub EachHasItsZones : Kind → Type 0
EachHasItsZones kind =
    (parity : Parity) (position : Position) → ExactlyOne (PositionIsInZones (span_of kind) parity position)

-- a point is strictly near a reference exactly if it is strictly near the reference's latitude and longitude
abbrev pub NearReferenceExactly : Kind → Type 0
NearReferenceExactly kind =
    (reference : Position) (point : Point) → IsStrictlyNearPosition (span_of kind) reference point
    ↔ IsStrictlyNearPoint (span_of kind) (degrees (lat_of reference)) (degrees (lon_of reference)) point

-- the points of a pair may lie anywhere in the air, and on the ground have to lie less than 45 degrees from the site
pub record LieAtExactly : Type 0 where
  pub in_air : (site : Option Position) (a b : Point) → LieAt InAir site a b
  pub on_ground : (site : Position) (a b : Point) → LieAt OnGround (Some site) a b
      ↔ (IsPointWithin 45 ground a site × IsPointWithin 45 ground b site)

-- ---- the results of calls made in sequence

-- decoding a frame near a reference has at most one result, and so has decoding two frames as a pair
abbrev pub OneAnswerNear : Type 0
OneAnswerNear =
    (frame : Frame) (reference : Position) (answer other : Result Place PlaceFault)
    → IsAnswerNear frame reference answer → IsAnswerNear frame reference other → answer ≡ other

abbrev pub OneAnswerOfPair : Type 0
OneAnswerOfPair =
    (newest : Parity) (even odd : Frame) (site : Option Position) (answer other : Result Place PlaceFault)
    → IsAnswerOfPair newest even odd site answer → IsAnswerOfPair newest even odd site other → answer ≡ other

-- a frame is read near a reference as a place, for all readings and results, exactly if some reading has this result
abbrev pub ReadNearExactly : Type 0
ReadNearExactly =
    (frame : Frame) (reference : Position) (place : Place) → IsFrame frame
    → IsReadNear frame reference place ↔ IsAnswerNear frame reference (Ok place)

-- two frames are read as a pair, for all readings and results, exactly if some readings have this result
abbrev pub ReadAsPairExactly : Type 0
ReadAsPairExactly =
    (newest : Parity) (even odd : Frame) (site : Option Position) (place : Place) → IsFrame even → IsFrame odd
    → IsReadAsPair (of_parity newest odd even) (of_parity newest even odd) site place
    ↔ IsAnswerOfPair newest even odd site (Ok place)

-- the newer of a pair has at most one place
abbrev pub OnePlaceOfNewer : Type 0
OnePlaceOfNewer =
    (older : Frame) (newer : Squitter) (site : Option Position) (p q : Place) → IsPlaceOfNewer older newer site p
    → IsPlaceOfNewer older newer site q → p ≡ q

-- a frame has no place near a reference exactly if no place is a result of decoding it there
abbrev pub NoPlaceNearExactly : Type 0
NoPlaceNearExactly =
    (frame : Frame) (reference : Position) → HasNoPlaceNear frame reference
    ↔ ((place : Place) → ¬ IsAnswerNear frame reference (Ok place))

-- two frames have no place exactly if no squitter read from the newer one has a place with the older one
abbrev pub NoPlaceExactly : Type 0
NoPlaceExactly =
    (older newer : Frame) (site : Option Position) → HaveNoPlace older newer site
    ↔ ((squitter : Squitter) (place : Place) → IsReading newer (Ok squitter)
    → ¬ IsPlaceOfNewer older squitter site place)

-- the exact condition for a squitter that is sent again
abbrev pub SentAgainExactly : Type 0
SentAgainExactly =
    (frame again : Frame) (squitter : Squitter) (place : Place) → IsSentAgain frame squitter place again
    ↔ (IsReading frame (Ok squitter) × (again ≡ frame) × ((sent : Squitter)
    × IsSentAt (squitter_parts squitter) place (squitter_parts sent) × Spells again sent))
