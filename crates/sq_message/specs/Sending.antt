-- Sending a position: the code of the point to which it rounds (RTCA DO-260B section 2.2.3.2 and the appendix on
-- compact position reporting).
use Rattle.std.specs.Prelude.{◌≡◌, ◌↔◌}
use Rattle.sq_bits.specs.declared.frame.Frame.{Frame}
use Rattle.sq_bits.specs.Frames.{IsFrame}
use Rattle.sq_angle.specs.declared.position.Position.{Position}
use Rattle.sq_zones.specs.declared.parity.Parity.{Parity}
use Rattle.sq_cpr.specs.declared.code.Code.{Code}
use Rattle.sq_cpr.specs.Code.{numbers_of}
use Rattle.sq_cpr.specs.Grid.{Point, code_of}
use Rattle.sq_cpr.specs.Rounds.{PositionRoundsTo}
use Rattle.sq_cpr.specs.Zones.{ZonePair, PositionIsInZones}
use Rattle.sq_message.specs.declared.squitter.Squitter.{Squitter}
use Rattle.sq_message.specs.Kinds.{Kind, HeadParts, me_of, span_of}
use Rattle.sq_message.specs.Parts.{SquitterParts, squitter_parts}
use Rattle.sq_message.specs.Spelling.{Spells}

-- the squitter of the kind with this head, and the parity and the code of this point
pub record IsSquitterOf (kind : Kind) (head : HeadParts kind) (point : Point) (squitter : SquitterParts)
    : Type 0 where
  pub ca : squitter.ca ≡ head.ca
  pub address : squitter.address ≡ head.address
  pub code : Code
  pub me : squitter.me ≡ me_of kind head point.parity code
  pub numbers : numbers_of code ≡ code_of point

-- The frame sent from a position with this head and parity: it encodes the squitter of the point to which the
-- position rounds.
pub record IsSent (kind : Kind) (head : HeadParts kind) (parity : Parity) (position : Position) (point : Point)
    (frame : Frame) : Type 0 where
  pub of_parity : point.parity ≡ parity
  pub rounds : PositionRoundsTo (span_of kind) position point
  pub squitter : Squitter
  pub sent : IsSquitterOf kind head point (squitter_parts squitter)
  pub is_frame : IsFrame frame
  pub spelled : Spells frame squitter

-- the frame is sent from the position with this head and parity, for every point to which the position rounds
abbrev pub IsFrameOf : (kind : Kind) → HeadParts kind → Parity → Position → Frame → Type 0
IsFrameOf kind head parity position frame =
    (point : Point) → point.parity ≡ parity → PositionRoundsTo (span_of kind) position point
    → IsSent kind head parity position point frame

-- two positions in the same zones of a parity's grid, sent with one head, have equal frames exactly if they round to
-- one point
abbrev pub SameZones : Kind → Type 0
SameZones kind =
    (head : HeadParts kind) (parity : Parity) (here there : Position) (zones : ZonePair) (p q : Point) (f g : Frame)
    → PositionIsInZones (span_of kind) parity here zones → PositionIsInZones (span_of kind) parity there zones
    → IsSent kind head parity here p f → IsSent kind head parity there q g
    → (f ≡ g) ↔ (p ≡ q)
