-- The headline, part by part, over the definitions that the contracts of the calls name.
use Rattle.std.specs.Prelude.{◌≡◌, ⊤, Option, None, Some, Result, Ok}
use Rattle.sq_bits.specs.declared.frame.Frame.{Frame}
use Rattle.sq_bits.specs.Frames.{IsFrame}
use Rattle.sq_angle.specs.declared.position.Position.{Position}
use Rattle.sq_zones.specs.declared.parity.Parity.{Parity}
use Rattle.sq_zones.specs.declared.parity.Parity.TheVariants.{Even, Odd}
use Rattle.sq_cpr.specs.declared.code.Code.{Code}
use Rattle.sq_cpr.specs.Span.{ground}
use Rattle.sq_cpr.specs.Grid.{Point}
use Rattle.sq_cpr.specs.Near.{IsStrictlyNearPosition}
use Rattle.sq_cpr.specs.Close.{AreClosePoints}
use Rattle.sq_cpr.specs.Pair.{of_parity}
use Rattle.sq_cpr.specs.Slow.{IsPointWithin}
use Rattle.sq_message.specs.declared.squitter.FrameFault.{FrameFault}
use Rattle.sq_message.specs.declared.squitter.Squitter.{Squitter}
use Rattle.sq_message.specs.declared.place.Place.{Place}
use Rattle.sq_message.specs.declared.place.PlaceFault.{PlaceFault}
use Rattle.sq_message.specs.Kinds.{Kind, HeadParts, InAir, OnGround, place_at, span_of, squitter_of}
use Rattle.sq_message.specs.Parts.{squitter_parts}
use Rattle.sq_message.specs.Places.{IsDecoded, IsLocalPlace, IsPairPlace, IsPositionOf, IsSentAt}
use Rattle.sq_message.specs.Sending.{IsSent}
use Rattle.sq_message.specs.Spelling.{IsReading, Spells}

-- every reading of the frame is a squitter, and every result of decoding it near the reference is this place
abbrev pub IsReadNear : Frame → Position → Place → Type 0
IsReadNear frame reference place =
    (reading : Result Squitter FrameFault) → IsReading frame reading
    → (squitter : Squitter) × (reading ≡ Ok squitter)
    × ((answer : Result Place PlaceFault) → IsLocalPlace (squitter_parts squitter).me reference answer
    → answer ≡ Ok place)

-- every reading of both frames is a squitter, and every result of decoding them as a pair is this place
abbrev pub IsReadAsPair : (older newer : Frame) → Option Position → Place → Type 0
IsReadAsPair older newer site place =
    (earlier later : Result Squitter FrameFault) → IsReading older earlier → IsReading newer later
    → (first second : Squitter) × (earlier ≡ Ok first) × (later ≡ Ok second)
    × ((answer : Result Place PlaceFault) → IsPairPlace (squitter_parts first) (squitter_parts second) site answer
    → answer ≡ Ok place)

-- A frame sent from a position and read with a reference strictly within half a zone of its point, in both
-- coordinates, gives that point. The zones are those of the point itself.
abbrev pub NearReference : Kind → Type 0
NearReference kind =
    (head : HeadParts kind) (parity : Parity) (position reference : Position) (point : Point) (frame : Frame)
    → IsSent kind head parity position point frame → IsStrictlyNearPosition (span_of kind) reference point
    → IsReadNear frame reference (place_at kind point)

-- The condition on where the points of a pair lie. In the air it always holds, with any site or none. On the ground
-- there is a site, and both points lie less than 45 degrees from the site in both coordinates.
abbrev pub LieAt : Kind → Option Position → (a b : Point) → Type 0
LieAt InAir site a b = ⊤
LieAt OnGround None a b = ⊥
LieAt OnGround (Some site) a b = IsPointWithin 45 ground a site × IsPointWithin 45 ground b site

-- An even and an odd frame sent with one address from close points give the point of the newest. Close points have
-- one zone count, and they have to lie as `LieAt` says.
abbrev pub ClosePair : Kind → Type 0
ClosePair kind =
    (even_head odd_head : HeadParts kind) (even_position odd_position : Position) (a b : Point) (even odd : Frame)
    (newest : Parity) (site : Option Position)
    → even_head.address ≡ odd_head.address
    → IsSent kind even_head Even even_position a even → IsSent kind odd_head Odd odd_position b odd
    → AreClosePoints (span_of kind) a b → LieAt kind site a b
    → IsReadAsPair (of_parity newest odd even) (of_parity newest even odd) site (place_at kind (of_parity newest a b))

-- a place that the squitter of a frame decodes to is written again as that frame
abbrev pub WrittenAgain : Type 0
WrittenAgain =
    (squitter sent : Squitter) (place : Place) (frame again : Frame)
    → IsFrame frame → Spells frame squitter → IsDecoded (squitter_parts squitter) place
    → IsSentAt (squitter_parts squitter) place (squitter_parts sent) → IsFrame again → Spells again sent
    → again ≡ frame

-- the exact position of a decoded place, sent with the head and the parity of the squitter, gives the squitter's
-- frame
abbrev pub SentAgain : Kind → Type 0
SentAgain kind =
    (squitter : Squitter) (head : HeadParts kind) (parity : Parity) (code : Code) (point rounded : Point)
    (position : Position) (frame again : Frame)
    → IsFrame frame → Spells frame squitter → squitter_parts squitter ≡ squitter_of kind head parity code
    → IsDecoded (squitter_parts squitter) (place_at kind point) → IsPositionOf (place_at kind point) position
    → IsSent kind head parity position rounded again
    → again ≡ frame

-- a head, a parity and a position are sent as at most one frame
abbrev pub OneFrameSent : Kind → Type 0
OneFrameSent kind =
    (head : HeadParts kind) (parity : Parity) (position : Position) (p q : Point) (f g : Frame)
    → IsSent kind head parity position p f → IsSent kind head parity position q g → f ≡ g

-- decoding near a reference has at most one result
abbrev pub OneLocalPlace : Type 0
OneLocalPlace =
    (squitter : Squitter) (reference : Position) (answer other : Result Place PlaceFault)
    → IsLocalPlace (squitter_parts squitter).me reference answer
    → IsLocalPlace (squitter_parts squitter).me reference other → answer ≡ other

-- decoding a pair has at most one result
abbrev pub OnePairPlace : Type 0
OnePairPlace =
    (older newer : Squitter) (site : Option Position) (answer other : Result Place PlaceFault)
    → IsPairPlace (squitter_parts older) (squitter_parts newer) site answer
    → IsPairPlace (squitter_parts older) (squitter_parts newer) site other → answer ≡ other

-- decoding near a reference has a result
abbrev pub SomeLocalPlace : Type 0
SomeLocalPlace = (squitter : Squitter) (reference : Position) → (answer : Result Place PlaceFault)
    × IsLocalPlace (squitter_parts squitter).me reference answer

-- decoding a pair has a result
abbrev pub SomePairPlace : Type 0
SomePairPlace =
    (older newer : Squitter) (site : Option Position) → (answer : Result Place PlaceFault)
    × IsPairPlace (squitter_parts older) (squitter_parts newer) site answer
