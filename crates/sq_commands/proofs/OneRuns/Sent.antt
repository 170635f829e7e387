-- `encode` has one reply.
use Rattle.std.proofs.Common.{◌≡◌, ◌∙◌, ℕ, List, Option, None, Some, Result, Ok, Err, ap, refl, sym, subst, inl}
use Rattle.std.proofs.Common.{inr}
use Rattle.std.specs.Int.Digits.{number_from_digits}
use Rattle.hex.specs.declared.error.FromHexError.{FromHexError}
use Rattle.sq_angle.specs.declared.position.Position.{Position}
use Rattle.sq_bits.specs.declared.frame.Frame.{Frame}
use Rattle.sq_zones.specs.declared.parity.Parity.{Parity}
use Rattle.sq_zones.specs.declared.parity.Parity.TheVariants.{Even, Odd}
use Rattle.sq_message.specs.Altitudes.{IsFieldOfFeet}
use Rattle.sq_message.specs.Kinds.{InAir, OnGround, HeadParts}
use Rattle.sq_message.specs.Parts.{AirParts, GroundParts}
use Rattle.sq_message.specs.Sending.{IsSent}
use Rattle.sq_message.proofs.FeetLemmas.{one_field}
use Rattle.sq_message.proofs.SameZones.{one_sent}
use Rattle.sq_message.proofs.Same.{same_air_fields, same_ground_fields}
use Rattle.sq_text.specs.Show.{parity_name}
use Rattle.sq_commands.specs.Requests.{AskedEncode}
use Rattle.sq_commands.specs.declared.arguments.ArgumentFault.{ArgumentFault}
use Rattle.sq_commands.specs.declared.arguments.Kind.{Kind}
use Rattle.sq_commands.specs.declared.arguments.Kind.TheVariants.{Air, Ground}
use Rattle.sq_commands.specs.Arguments.{IsAddress, kind_name}
use Rattle.sq_commands.specs.Encode.{EncodeValues, IsAirFrame, IsAirHead, IsAltitudeOf, IsEncodeFault, IsEncodeReading}
use Rattle.sq_commands.specs.Encode.{IsEncodeReply, IsEncodeValues, IsFrameOf, IsGroundFrame, IsGroundHead}
use Rattle.sq_commands.specs.Encode.{IsLineOf}
use Rattle.sq_commands.specs.Faults.{misused}
use Rattle.sq_commands.specs.Replies.{IsAnswer}
use Rattle.sq_commands.proofs.ArgumentLemmas.{one_feet}
use Rattle.sq_commands.proofs.SoundReplies.{IsSound, sound_answer, sound_reply}
use Rattle.sq_commands.proofs.FaultLemmas.{one_encode_fault}
use Rattle.sq_commands.proofs.OneRuns.Words.{good_position, one_position_words}

-- ---- values

-- no two kinds have one name
one_kind : (x y : Kind) → kind_name x ≡ kind_name y → x ≡ y
one_kind Air Air is = refl
one_kind Air Ground is = absurd (cc is)
one_kind Ground Air is = absurd (cc is)
one_kind Ground Ground is = refl

-- no two parities have one name
one_parity : (x y : Parity) → parity_name x ≡ parity_name y → x ≡ y
one_parity Even Even is = refl
one_parity Even Odd is = absurd (cc is)
one_parity Odd Even is = absurd (cc is)
one_parity Odd Odd is = refl

-- a word is one address
one_address : (word : List ℕ) (x y : ℕ) → IsAddress word x → IsAddress word y → x ≡ y
one_address word x y (bytes, _, is, value) (others, _, is', value') =
    let both : ◌≡◌ {A = Result (List ℕ) FromHexError} (Ok bytes) (Ok others) = sym is ∙ is' in
    let same : bytes ≡ others = cc both in
    value ∙ ap (number_from_digits 256) same ∙ sym value'

-- a word, or none, is one altitude field of a kind
one_altitude : (kind : Kind) (feet : Option (List ℕ)) (x y : ℕ) → IsAltitudeOf kind feet x → IsAltitudeOf kind feet y
    → x ≡ y
one_altitude Air None x y h k = h ∙ sym k
one_altitude Ground None x y h k = h ∙ sym k
one_altitude Air (Some word) x y (f, text, of) (g, text', of') =
    one_field x y f of (subst (λ z. IsFieldOfFeet y z) (sym (one_feet word f g text text')) of')
one_altitude Ground (Some word) x y h k = absurd h

-- words spell these values alone
one_values : (words : AskedEncode) (v w : EncodeValues) → IsEncodeValues words v → IsEncodeValues words w → v ≡ w
one_values words v w h k =
    let kind = one_kind v.kind w.kind (sym h.kind ∙ k.kind) in
    let parity = one_parity v.parity w.parity (sym h.parity ∙ k.parity) in
    let address = one_address words.address v.address w.address h.address k.address in
    let altitude = one_altitude v.kind words.feet v.altitude w.altitude h.altitude
    (subst (λ x. IsAltitudeOf x words.feet w.altitude) (sym kind) k.altitude) in
    let position = one_position_words words.lat words.lon v.position w.position h.position k.position in
    λ i. record {
      kind = kind i;
      parity = parity i;
      address = address i;
      altitude = altitude i;
      position = position i;
    }

-- words that spell values have no fault
good_encode : (words : AskedEncode) (v : EncodeValues) (fault : ArgumentFault) → IsEncodeValues words v
    → IsEncodeFault words fault → ⊥
good_encode words v fault h (inl (_, bad)) = bad (v.kind, h.kind)
good_encode words v fault h (inr (_, inl (_, bad))) = bad (v.parity, h.parity)
good_encode words v fault h (inr (_, inr (_, inl (_, bad)))) = bad (v.address, h.address)
good_encode words v fault h (inr (_, inr (_, inr (_, inl (_, bad))))) = bad (v.kind, h.kind, (v.altitude, h.altitude))
good_encode words v fault h (inr (_, inr (_, inr (_, inr (_, bad))))) =
    good_position words.lat words.lon v.position fault h.position bad

-- ---- frames

-- of an address and an altitude field there is one head in the air
one_air_head : (address altitude : ℕ) (x y : HeadParts InAir) → IsAirHead address altitude x
    → IsAirHead address altitude y → x ≡ y
one_air_head address altitude x y h k =
    let parts = h.fields ∙ sym k.fields in
    let ca = h.ca ∙ sym k.ca in
    let of = h.of ∙ sym k.of in
    let fields = same_air_fields x.fields y.fields (ap (λ (p : AirParts). p.type_code) parts)
    (ap (λ (p : AirParts). p.status) parts) (ap (λ (p : AirParts). p.flag) parts)
    (ap (λ (p : AirParts). p.altitude) parts) (ap (λ (p : AirParts). p.time) parts) in
    λ i. record { ca = ca i; address = of i; fields = fields i }

-- of an address there is one head on the ground
one_ground_head : (address : ℕ) (x y : HeadParts OnGround) → IsGroundHead address x → IsGroundHead address y → x ≡ y
one_ground_head address x y h k =
    let parts = h.fields ∙ sym k.fields in
    let ca = h.ca ∙ sym k.ca in
    let of = h.of ∙ sym k.of in
    let fields = same_ground_fields x.fields y.fields (ap (λ (p : GroundParts). p.type_code) parts)
    (ap (λ (p : GroundParts). p.movement) parts) (ap (λ (p : GroundParts). p.track_status) parts)
    (ap (λ (p : GroundParts). p.track) parts) (ap (λ (p : GroundParts). p.time) parts) in
    λ i. record { ca = ca i; address = of i; fields = fields i }

-- in the air one frame is sent
one_air_frame : (address altitude : ℕ) (parity : Parity) (position : Position) (f g : Frame)
    → IsAirFrame address altitude parity position f → IsAirFrame address altitude parity position g → f ≡ g
one_air_frame address altitude parity position f g (x, x_is, (p, h)) (y, y_is, (q, k)) =
    one_sent InAir x parity position p q f g h
    (subst (λ (z : HeadParts InAir). IsSent InAir z parity position q g)
    (sym (one_air_head address altitude x y x_is y_is)) k)

-- on the ground one frame is sent
one_ground_frame : (address : ℕ) (parity : Parity) (position : Position) (f g : Frame)
    → IsGroundFrame address parity position f → IsGroundFrame address parity position g → f ≡ g
one_ground_frame address parity position f g (x, x_is, (p, h)) (y, y_is, (q, k)) =
    one_sent OnGround x parity position p q f g h
    (subst (λ (z : HeadParts OnGround). IsSent OnGround z parity position q g)
    (sym (one_ground_head address x y x_is y_is)) k)

-- of values one frame is sent
one_frame_of : (kind : Kind) (v : EncodeValues) (f g : Frame) → IsFrameOf kind v f → IsFrameOf kind v g → f ≡ g
one_frame_of Air v f g h k = one_air_frame v.address v.altitude v.parity v.position f g h k
one_frame_of Ground v f g h k = one_ground_frame v.address v.parity v.position f g h k

-- ---- replies

-- the arguments of `encode` ask for one frame, or have one fault
one_encode_reading : (words : AskedEncode) (r s : Result Frame ArgumentFault) → IsEncodeReading words r
    → IsEncodeReading words s → r ≡ s
one_encode_reading words (Ok f) (Ok g) (v, v_is, h) (w, w_is, k) =
    ap Ok (one_frame_of v.kind v f g h
    (subst (λ (u : EncodeValues). IsFrameOf u.kind u g) (sym (one_values words v w v_is w_is)) k))
one_encode_reading words (Ok f) (Err fault) (v, v_is, h) bad = absurd (good_encode words v fault v_is bad)
one_encode_reading words (Err fault) (Ok g) bad (w, w_is, k) = absurd (good_encode words w fault w_is bad)
one_encode_reading words (Err f) (Err g) h k = ap Err (one_encode_fault words f g h k)

pub sound_encode : (words : AskedEncode) → IsSound (IsEncodeReply words)
sound_encode words =
    sound_reply (IsEncodeReading words) (λ frame. IsAnswer (IsLineOf frame)) misused (one_encode_reading words)
    (λ fault is. cc is) (λ frame. sound_answer (IsLineOf frame) (λ s t h k. h ∙ sym k))
