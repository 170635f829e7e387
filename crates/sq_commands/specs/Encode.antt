-- The command `encode`.
use Rattle.std.specs.Prelude.{◌≡◌, ◌++◌, ℕ, List, Option, None, Some, Result, MatchResult, codes, false}
use Rattle.sq_bits.specs.declared.frame.Frame.{Frame}
use Rattle.sq_angle.specs.declared.position.Position.{Position}
use Rattle.sq_zones.specs.declared.parity.Parity.{Parity}
use Rattle.sq_cpr.specs.Grid.{Point}
use Rattle.sq_feed.specs.Lines.{frame_digits}
use Rattle.sq_message.specs.Kinds.{InAir, OnGround, HeadParts}
use Rattle.sq_message.specs.Parts.{air_parts, ground_parts}
use Rattle.sq_message.specs.Sending.{IsSent}
use Rattle.sq_text.specs.Show.{parity_name}
use Rattle.sq_commands.specs.Requests.{AskedEncode}
use Rattle.sq_commands.specs.declared.arguments.ArgumentFault.{ArgumentFault}
use Rattle.sq_commands.specs.declared.arguments.ArgumentFault.TheVariants as faults
use Rattle.sq_commands.specs.declared.arguments.Kind.{Kind}
use Rattle.sq_commands.specs.declared.arguments.Kind.TheVariants.{Air, Ground}
use Rattle.sq_commands.specs.Arguments.{IsAddress, IsFaultUnless, IsFeet, IsPositionFault, IsPositionWords, kind_name}
use Rattle.sq_commands.specs.Faults.{misused}
use Rattle.sq_commands.specs.Replies.{IsAnswer, IsReplyTo, ReplyParts}

-- the values of the arguments of `encode`
pub record EncodeValues : Type 0 where
  pub kind : Kind
  pub parity : Parity
  pub address : ℕ
  pub altitude : ℕ
  pub position : Position

-- the altitude field of these feet, in the air alone; 0 if none are given
abbrev pub IsAltitudeOf : Kind → Option (List ℕ) → ℕ → Type 0
IsAltitudeOf kind None altitude = altitude ≡ 0
IsAltitudeOf Air (Some feet) altitude = IsFeet feet altitude
IsAltitudeOf Ground (Some feet) altitude = ⊥

-- the words spell these values
pub record IsEncodeValues (words : AskedEncode) (v : EncodeValues) : Type 0 where
  pub kind : words.kind ≡ kind_name v.kind
  pub parity : words.parity ≡ parity_name v.parity
  pub address : IsAddress words.address v.address
  pub altitude : IsAltitudeOf v.kind words.feet v.altitude
  pub position : IsPositionWords words.lat words.lon v.position

-- the feet of the kind have a field, in the air alone
abbrev pub HasAltitude : List ℕ → Option (List ℕ) → Type 0
HasAltitude word feet = (kind : Kind) × (word ≡ kind_name kind) × ((altitude : ℕ) × IsAltitudeOf kind feet altitude)

-- the first error of the arguments of `encode`, in reading order
abbrev pub IsEncodeFault : AskedEncode → ArgumentFault → Type 0
IsEncodeFault words fault =
    IsFaultUnless ((kind : Kind) × (words.kind ≡ kind_name kind)) fault faults.Kind
    (IsFaultUnless ((parity : Parity) × (words.parity ≡ parity_name parity)) fault faults.Parity
    (IsFaultUnless ((address : ℕ) × IsAddress words.address address) fault faults.Address
    (IsFaultUnless (HasAltitude words.kind words.feet) fault faults.Feet
    (IsPositionFault words.lat words.lon fault))))

-- capability 5, type code 11, and of the other fields the altitude alone
pub record IsAirHead (address altitude : ℕ) (head : HeadParts InAir) : Type 0 where
  pub ca : head.ca ≡ 5
  pub of : head.address ≡ address
  pub fields : air_parts head.fields ≡ record {
    type_code = 11;
    status = 0;
    flag = false;
    altitude = altitude;
    time = false;
  }

-- capability 4, type code 7, and no other field
pub record IsGroundHead (address : ℕ) (head : HeadParts OnGround) : Type 0 where
  pub ca : head.ca ≡ 4
  pub of : head.address ≡ address
  pub fields : ground_parts head.fields
      ≡ record { type_code = 7; movement = 0; track_status = false; track = 0; time = false }

-- the frame that is sent in the air
abbrev pub IsAirFrame : (address altitude : ℕ) → Parity → Position → Frame → Type 0
IsAirFrame address altitude parity position frame =
    (head : HeadParts InAir) × IsAirHead address altitude head
    × ((point : Point) × IsSent InAir head parity position point frame)

-- the frame that is sent on the ground
abbrev pub IsGroundFrame : (address : ℕ) → Parity → Position → Frame → Type 0
IsGroundFrame address parity position frame =
    (head : HeadParts OnGround) × IsGroundHead address head
    × ((point : Point) × IsSent OnGround head parity position point frame)

-- the frame that is sent of a kind
abbrev pub IsFrameOf : Kind → EncodeValues → Frame → Type 0
IsFrameOf Air v frame = IsAirFrame v.address v.altitude v.parity v.position frame
IsFrameOf Ground v frame = IsGroundFrame v.address v.parity v.position frame

-- the line of a frame: 28 upper-case hexadecimal digits
abbrev pub IsLineOf : Frame → List ℕ → Type 0
IsLineOf frame line = line ≡ frame_digits frame.0 ++ codes "\n"

-- the result of the arguments of `encode`: a frame of the values that they spell, or their first fault
abbrev pub IsEncodeReading : AskedEncode → Result Frame ArgumentFault → Type 0
IsEncodeReading words reading = MatchResult reading
    (λ frame. (values : EncodeValues) × IsEncodeValues words values × IsFrameOf values.kind values frame)
    (IsEncodeFault words)

-- the reply is the frame of the values that the words spell
abbrev pub IsEncodeReply : AskedEncode → ReplyParts → Type 0
IsEncodeReply words = IsReplyTo (IsEncodeReading words) (λ frame. IsAnswer (IsLineOf frame)) misused
