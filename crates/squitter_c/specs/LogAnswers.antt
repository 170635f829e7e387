-- The results for the lines of a log, as plain numbers.
use Rattle.std.specs.Prelude.{◌≡◌, ℕ, ℤ, pos, MatchResult}
use Rattle.sq_angle.specs.declared.position.Position.{Position}
use Rattle.sq_message.specs.declared.place.Place.{Place}
use Rattle.sq_message.specs.declared.squitter.Me.{Me}
use Rattle.sq_message.specs.declared.squitter.Me.TheVariants as kinds
use Rattle.sq_message.specs.Parts.{air_parts, squitter_parts}
use Rattle.sq_message.specs.Places.{IsPositionOf}
use Rattle.sq_text.specs.declared.faults.LineFault.{LineFault}
use Rattle.sq_log.specs.declared.log.Answer.{Answer as Told}
use Rattle.sq_track.specs.declared.heard.Heard.{Heard}
use Rattle.sq_track.specs.declared.heard.Heard.TheVariants.{Fix, Followed, Waiting, Split, Far, NoSite, NotPosition}
use Rattle.sq_commands.specs.declared.answers.HeardSquitter.{HeardSquitter}
use Rattle.squitter_c.specs.declared.heard.PlainHeard.{PlainHeard}
use Rattle.squitter_c.specs.Faults.{fault_of_line, none}
use Rattle.squitter_c.specs.Heard.{HasNoPlace, IsHeardAs}
use Rattle.squitter_c.specs.Plain.{IsOfDegrees}
use Rattle.squitter_c.specs.declared.e7.DegreesE7.{DegreesE7}
use Rattle.squitter_c.specs.declared.log_answer.PlainAnswer.{PlainAnswer}
use Rattle.squitter_c.specs.E7.{AreE7Of}
use Rattle.squitter_c.specs.Fields.{HasMeaning}

-- a result with a position: not in lowest terms, and in units of 10^-7 degree
pub record IsToldPlace (which : ℕ) (place : Place) (heard : PlainHeard) (degrees : DegreesE7) : Type 0 where
  pub which_is : IsHeardAs which 0 0 heard
  pub position : Position
  pub is_of : IsPositionOf place position
  pub fractions : IsOfDegrees heard.position position
  pub degrees_are : AreE7Of position degrees

-- a result without a position: its fractions and its degrees are 0
pub record IsToldNowhere (which first second : ℕ) (heard : PlainHeard) (degrees : DegreesE7) : Type 0 where
  pub which_is : IsHeardAs which first second heard
  pub nowhere : HasNoPlace heard
  pub degrees_are : (degrees.lat ≡ pos 0) × (degrees.lon ≡ pos 0)

-- each of the seven results, with its position if it has one
abbrev pub IsTold : Heard → PlainHeard → DegreesE7 → Type 0
IsTold (Fix place) heard degrees = IsToldPlace 1 place heard degrees
IsTold (Followed place) heard degrees = IsToldPlace 2 place heard degrees
IsTold Waiting heard degrees = IsToldNowhere 3 0 0 heard degrees
IsTold (Split even odd) heard degrees = IsToldNowhere 4 even odd heard degrees
IsTold Far heard degrees = IsToldNowhere 5 0 0 heard degrees
IsTold NoSite heard degrees = IsToldNowhere 6 0 0 heard degrees
IsTold NotPosition heard degrees = IsToldNowhere 7 0 0 heard degrees

-- the kind of a message, and the meaning of the altitude field if it is in the air
abbrev pub IsKindOf : Me → (kind form : ℕ) → (feet : ℤ) → Type 0
IsKindOf (kinds.Airborne airborne) kind form feet = let fields = air_parts airborne.fields in
    (kind ≡ 1) × HasMeaning fields.type_code fields.altitude form feet
IsKindOf (kinds.Surface surface) kind form feet = (kind ≡ 2) × (form ≡ 0) × (feet ≡ pos 0)
IsKindOf (kinds.Other other) kind form feet = (kind ≡ 0) × (form ≡ 0) × (feet ≡ pos 0)

-- the result for a good line with this number
pub record IsPlainFound (number : ℕ) (found : HeardSquitter) (plain : PlainAnswer) : Type 0 where
  pub number_is : plain.number ≡ number
  pub moment : plain.moment ≡ found.timed.moment
  pub told : IsTold found.heard plain.heard plain.degrees
  pub address : plain.address ≡ (squitter_parts found.timed.squitter).address
  pub kind : IsKindOf (squitter_parts found.timed.squitter).me plain.kind plain.altitude_form plain.feet
  pub fault : plain.fault ≡ none

-- the result for a refused line with this number: all but the number and the fault is 0
pub record IsRefusedLine (number : ℕ) (fault : LineFault) (plain : PlainAnswer) : Type 0 where
  pub number_is : plain.number ≡ number
  pub fault_is : plain.fault ≡ fault_of_line fault
  pub told : IsToldNowhere 0 0 0 plain.heard plain.degrees
  pub others : (plain.moment ≡ 0) × (plain.address ≡ 0) × (plain.kind ≡ 0)
  pub altitude : (plain.altitude_form ≡ 0) × (plain.feet ≡ pos 0)

-- the result for a line, in plain numbers
abbrev pub IsPlainAnswer : Told HeardSquitter → PlainAnswer → Type 0
IsPlainAnswer answer plain =
    MatchResult answer.verdict (λ found. IsPlainFound answer.number found plain)
    (λ fault. IsRefusedLine answer.number fault plain)
