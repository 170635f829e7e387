-- The results of decoding texts, by the definitions of the crates that the example uses.
use Rattle.std.specs.Prelude.{◌≡◌, ◌⊎◌, ℕ, List, Option, Result, Ok, Err, MatchResult}
use Rattle.sq_bits.specs.declared.frame.Frame.{Frame}
use Rattle.sq_angle.specs.declared.position.Position.{Position}
use Rattle.sq_zones.specs.declared.parity.Parity.{Parity}
use Rattle.sq_cpr.specs.Span.{air, ground}
use Rattle.sq_cpr.specs.Grid.{Point}
use Rattle.sq_cpr.specs.Near.{IsStrictlyNearPosition}
use Rattle.sq_message.specs.declared.place.Place.{Place}
use Rattle.sq_message.specs.declared.place.Place.TheVariants.{Air, Ground}
use Rattle.sq_message.specs.declared.place.PlaceFault.{PlaceFault}
use Rattle.sq_message.specs.declared.squitter.Squitter.{Squitter}
use Rattle.sq_message.specs.Kinds.{InAir, OnGround, HeadParts}
use Rattle.sq_message.specs.Parts.{squitter_parts}
use Rattle.sq_message.specs.Places.{IsLocalPlace, IsPairPlace}
use Rattle.sq_message.specs.Sending.{IsSent}
use Rattle.sq_text.specs.declared.faults.LineFault.{LineFault}
use Rattle.sq_text.specs.FrameText.{IsFrameText}
use Rattle.sq_text.specs.Reading.{IsSquitterReading}
use Rattle.example_place.specs.declared.fault.Fault.{Fault}
use Rattle.example_place.specs.declared.fault.Fault.TheVariants.{OfPlace, OfText}

-- the text is read as a squitter, and this is its place near the reference
abbrev pub IsPlaceNear : List ℕ → Position → Place → Type 0
IsPlaceNear text reference place =
    (squitter : Squitter) × IsSquitterReading text (Ok squitter)
    × IsLocalPlace (squitter_parts squitter).me reference (Ok place)

-- the error of the text, or of decoding its squitter near the reference
abbrev pub IsFaultNear : List ℕ → Position → Fault → Type 0
IsFaultNear text reference fault =
    ((e : LineFault) × IsSquitterReading text (Err e) × (fault ≡ OfText e))
    ⊎ ((squitter : Squitter) × (e : PlaceFault) × IsSquitterReading text (Ok squitter)
    × IsLocalPlace (squitter_parts squitter).me reference (Err e) × (fault ≡ OfPlace e))

-- the result of decoding a text near a reference
abbrev pub IsPlaceOfText : List ℕ → Position → Result Place Fault → Type 0
IsPlaceOfText text reference answer = MatchResult answer (IsPlaceNear text reference) (IsFaultNear text reference)

-- both texts are read as squitters, and this is the place of the pair
abbrev pub IsPlaceOfPair : (older newer : List ℕ) → Option Position → Place → Type 0
IsPlaceOfPair older newer site place =
    (first second : Squitter) × IsSquitterReading older (Ok first) × IsSquitterReading newer (Ok second)
    × IsPairPlace (squitter_parts first) (squitter_parts second) site (Ok place)

-- the first error: of the older text, of the newer one, or of the pair
abbrev pub IsFaultOfPair : (older newer : List ℕ) → Option Position → Fault → Type 0
IsFaultOfPair older newer site fault =
    ((e : LineFault) × IsSquitterReading older (Err e) × (fault ≡ OfText e))
    ⊎ ((first : Squitter) × (e : LineFault) × IsSquitterReading older (Ok first) × IsSquitterReading newer (Err e)
    × (fault ≡ OfText e))
    ⊎ ((first second : Squitter) × (e : PlaceFault) × IsSquitterReading older (Ok first)
    × IsSquitterReading newer (Ok second)
    × IsPairPlace (squitter_parts first) (squitter_parts second) site (Err e) × (fault ≡ OfPlace e))

-- the result of decoding two texts
abbrev pub IsPairOfTexts : (older newer : List ℕ) → Option Position → Result Place Fault → Type 0
IsPairOfTexts older newer site answer =
    MatchResult answer (IsPlaceOfPair older newer site) (IsFaultOfPair older newer site)

-- the text of a frame sent in the air gives the point to which the sent position rounds, if the reference is strictly
-- near that point
abbrev pub IsTrueInAir : List ℕ → Position → Result Place Fault → Type 0
IsTrueInAir text reference answer =
    (head : HeadParts InAir) (parity : Parity) (position : Position) (point : Point) (frame : Frame)
    → IsFrameText text frame → IsSent InAir head parity position point frame
    → IsStrictlyNearPosition air reference point
    → answer ≡ Ok (Air point)

-- the text of a frame sent on the ground gives the point to which the sent position rounds, if the reference is
-- strictly near that point
abbrev pub IsTrueOnGround : List ℕ → Position → Result Place Fault → Type 0
IsTrueOnGround text reference answer =
    (head : HeadParts OnGround) (parity : Parity) (position : Position) (point : Point) (frame : Frame)
    → IsFrameText text frame → IsSent OnGround head parity position point frame
    → IsStrictlyNearPosition ground reference point
    → answer ≡ Ok (Ground point)
