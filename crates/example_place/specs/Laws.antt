-- Laws of decoding texts, as statements.
use Rattle.std.specs.Prelude.{◌≡◌, List, ℕ, Option, Result}
use Rattle.sq_bits.specs.declared.frame.Frame.{Frame}
use Rattle.sq_angle.specs.declared.position.Position.{Position}
use Rattle.sq_zones.specs.declared.parity.Parity.{Parity}
use Rattle.sq_cpr.specs.Span.{air, ground}
use Rattle.sq_cpr.specs.Grid.{Point}
use Rattle.sq_cpr.specs.Near.{IsStrictlyNearPosition}
use Rattle.sq_message.specs.declared.place.Place.{Place}
use Rattle.sq_message.specs.Kinds.{HeadParts, InAir, OnGround}
use Rattle.sq_message.specs.Sending.{IsSent}
use Rattle.sq_text.specs.FrameText.{IsFrameText}
use Rattle.example_place.specs.declared.fault.Fault.{Fault}
use Rattle.example_place.specs.Places.{IsPairOfTexts, IsPlaceOfText, IsTrueInAir, IsTrueOnGround}

-- decoding a text near a reference has at most one result
abbrev pub OneAnswerNear : Type 0
OneAnswerNear = (text : List ℕ) (reference : Position) (a b : Result Place Fault)
    → IsPlaceOfText text reference a → IsPlaceOfText text reference b → a ≡ b

-- decoding two texts has at most one result
abbrev pub OneAnswerOfPair : Type 0
OneAnswerOfPair = (older newer : List ℕ) (site : Option Position) (a b : Result Place Fault)
    → IsPairOfTexts older newer site a → IsPairOfTexts older newer site b → a ≡ b

-- if the frame of a text was sent in the air from near the reference, at most one result satisfies `IsTrueInAir`
abbrev pub OneTrueAnswerInAir : Type 0
OneTrueAnswerInAir = (text : List ℕ) (reference position : Position) (head : HeadParts InAir) (parity : Parity)
    (point : Point) (frame : Frame) (a b : Result Place Fault)
    → IsFrameText text frame → IsSent InAir head parity position point frame
    → IsStrictlyNearPosition air reference point
    → IsTrueInAir text reference a → IsTrueInAir text reference b → a ≡ b

-- if the frame of a text was sent on the ground from near the reference, at most one result satisfies
-- `IsTrueOnGround`
abbrev pub OneTrueAnswerOnGround : Type 0
OneTrueAnswerOnGround = (text : List ℕ) (reference position : Position) (head : HeadParts OnGround) (parity : Parity)
    (point : Point) (frame : Frame) (a b : Result Place Fault)
    → IsFrameText text frame → IsSent OnGround head parity position point frame
    → IsStrictlyNearPosition ground reference point
    → IsTrueOnGround text reference a → IsTrueOnGround text reference b → a ≡ b
