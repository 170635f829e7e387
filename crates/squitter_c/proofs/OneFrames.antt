-- A frame that is encoded is unique, or has one fault.
use Rattle.std.proofs.Common.{◌≡◌, ◌∙◌, ◌<◌, ◌^◌, ◌⊎◌, ℕ, Bool, true, false, Result, Ok, Err, inl, inr, arith, ap, refl}
use Rattle.std.proofs.Common.{subst, sym}
use Rattle.sq_angle.specs.declared.position.Position.{Position}
use Rattle.sq_bits.specs.declared.frame.Frame.{Frame}
use Rattle.sq_zones.specs.declared.parity.Parity.{Parity}
use Rattle.sq_zones.specs.declared.parity.Parity.TheVariants.{Even, Odd}
use Rattle.sq_cpr.specs.Grid.{Point}
use Rattle.sq_message.specs.Kinds.{Kind, HeadParts, InAir, OnGround}
use Rattle.sq_message.specs.Sending.{IsSent}
use Rattle.sq_message.specs.Spelling.{bit}
use Rattle.sq_message.specs.TypeCodes.{IsAirCode, IsGroundCode}
use Rattle.sq_message.proofs.SameZones.{one_sent}
use Rattle.sq_message.proofs.Same.{same_air_fields, same_bit, same_ground_fields, same_parity}
use Rattle.squitter_c.specs.declared.faults.Reason.{Reason}
use Rattle.squitter_c.specs.declared.faults.Reason.TheVariants as reasons
use Rattle.squitter_c.specs.declared.plain.PlainPosition.{PlainPosition}
use Rattle.squitter_c.specs.Faults.{as_it_is}
use Rattle.squitter_c.specs.Heads.{IsHead, PlainHead, PlainIsHead, odd_of}
use Rattle.squitter_c.specs.OneAnswers.{OneSent}
use Rattle.squitter_c.specs.Plain.{IsFlag, IsOfDegrees, IsParity, PlainIsPosition}
use Rattle.squitter_c.specs.Reading.{AreBytesOf}
use Rattle.squitter_c.specs.Sending.{IsSendAnswer}
use Rattle.squitter_c.proofs.OnePlain.{is_position, one_of_degrees}
use Rattle.squitter_c.proofs.OneTelling.{one_telling}

-- ---- one frame of a head, a parity and a position

-- equal heads, parities and positions have at most one frame
pub one_of_equals : (kind : Kind) (s t : HeadParts kind) (p q : Parity) (x y : Position) (m n : Point) (f g : Frame)
    → s ≡ t → p ≡ q → x ≡ y → IsSent kind s p x m f → IsSent kind t q y n g → f ≡ g
one_of_equals kind s t p q x y m n f g head parity position h k =
    one_sent kind s p x m n f g h
    (subst (λ u. IsSent kind u p x n g) (sym head)
    (subst (λ u. IsSent kind t u x n g) (sym parity)
    (subst (λ u. IsSent kind t q u n g) (sym position) k)))

-- ---- heads

one_head : (kind : Kind) (plain : PlainHead kind) (a b : HeadParts kind) → IsHead kind plain a → IsHead kind plain b
    → a ≡ b
one_head InAir plain a b h k =
    let ca = h.ca ∙ sym k.ca in
    let address = h.address ∙ sym k.address in
    let fields = same_air_fields a.fields b.fields (h.type_code ∙ sym k.type_code) (h.status ∙ sym k.status)
    (same_bit a.fields.flag b.fields.flag (h.flag ∙ sym k.flag)) (h.altitude ∙ sym k.altitude)
    (same_bit a.fields.time b.fields.time (h.time ∙ sym k.time)) in
    λ i. record { ca = ca i; address = address i; fields = fields i }
one_head OnGround plain a b h k =
    let ca = h.ca ∙ sym k.ca in
    let address = h.address ∙ sym k.address in
    let fields = same_ground_fields a.fields b.fields (h.type_code ∙ sym k.type_code) (h.movement ∙ sym k.movement)
    (same_bit a.fields.track_status b.fields.track_status (h.track_status ∙ sym k.track_status))
    (h.track ∙ sym k.track) (same_bit a.fields.time b.fields.time (h.time ∙ sym k.time)) in
    λ i. record { ca = ca i; address = address i; fields = fields i }

bit_is_flag : (b : Bool) → bit b < 2
bit_is_flag true = omega arith
bit_is_flag false = omega arith

pub parity_is_flag : (n : ℕ) (p : Parity) → IsParity n p → IsFlag n
parity_is_flag n Even e = omega (arith, e)
parity_is_flag n Odd e = omega (arith, e)

is_head : (kind : Kind) (plain : PlainHead kind) (a : HeadParts kind) (p : Parity) → a.ca < 8 → a.address < 2 ^ 24
    → IsHead kind plain a → IsParity (odd_of kind plain) p → PlainIsHead kind plain
is_head InAir plain a p ca address h parity = (
  record {
    address = omega (arith, h.address, address);
    ca = omega (arith, h.ca, ca);
    type_code = subst IsAirCode h.type_code a.fields.type_code_in;
    status = omega (arith, h.status, a.fields.status_in);
    altitude = omega (arith, h.altitude, a.fields.altitude_in);
    flag = subst IsFlag h.flag (bit_is_flag a.fields.flag);
    time = subst IsFlag h.time (bit_is_flag a.fields.time);
  },
  parity_is_flag plain.odd p parity,
)
is_head OnGround plain a p ca address h parity = (
  record {
    address = omega (arith, h.address, address);
    ca = omega (arith, h.ca, ca);
    type_code = subst IsGroundCode h.type_code a.fields.type_code_in;
    movement = omega (arith, h.movement, a.fields.movement_in);
    track = omega (arith, h.track, a.fields.track_in);
    track_status = subst IsFlag h.track_status (bit_is_flag a.fields.track_status);
    time = subst IsFlag h.time (bit_is_flag a.fields.time);
  },
  parity_is_flag plain.odd p parity,
)

-- ---- the result for a head and a position: one frame, or the first fault

module _ (Head : Type 0) (plain : PlainPosition) (Sent : Frame → Type 0)
    (one : (f g : Frame) → Sent f → Sent g → f ≡ g) where
  -- the head is checked first, then the position
  abbrev Told : Result Frame Reason → Type 0
  Told answer = ((¬ Head) × (answer ≡ Err reasons.NoHead))
      ⊎ (Head × (((¬ (PlainIsPosition plain)) × (answer ≡ Err reasons.NoPosition))
      ⊎ (PlainIsPosition plain × ((f : Frame) × Sent f × (answer ≡ Ok f)))))

  one_told : (r s : Result Frame Reason) → Told r → Told s → r ≡ s
  one_told r s (inl h) (inl k) = h.1 ∙ sym k.1
  one_told r s (inl h) (inr k) = absurd (h.0 k.0)
  one_told r s (inr h) (inl k) = absurd (k.0 h.0)
  one_told r s (inr (a, inl h)) (inr (b, inl k)) = h.1 ∙ sym k.1
  one_told r s (inr (a, inl h)) (inr (b, inr k)) = absurd (h.0 k.0)
  one_told r s (inr (a, inr h)) (inr (b, inl k)) = absurd (k.0 h.0)
  one_told r s (inr (a, inr (_, (f, h, r_is)))) (inr (b, inr (_, (g, k, s_is)))) = r_is ∙ ap Ok (one f g h k) ∙ sym s_is

-- the frame is encoded from what these represent
abbrev Sent : (kind : Kind) → PlainHead kind → PlainPosition → Frame → Type 0
Sent kind plain place frame = (head : HeadParts kind) × IsHead kind plain head
    × ((parity : Parity) × IsParity (odd_of kind plain) parity
    × ((position : Position) × IsOfDegrees place position
    × ((point : Point) × IsSent kind head parity position point frame)))

one_frame : (kind : Kind) (plain : PlainHead kind) (place : PlainPosition) (f g : Frame) → Sent kind plain place f
    → Sent kind plain place g → f ≡ g
one_frame kind plain place f g (a, a_is, (p, p_is, (x, x_is, (m, h)))) (b, b_is, (q, q_is, (y, y_is, (n, k)))) =
    one_of_equals kind a b p q x y m n f g (one_head kind plain a b a_is b_is)
    (same_parity p q (sym p_is ∙ q_is)) (one_of_degrees place x y x_is y_is) h k

told : (kind : Kind) (plain : PlainHead kind) (place : PlainPosition) (r : Result Frame Reason)
    → IsSendAnswer kind plain place r
    → Told (PlainIsHead kind plain) place (Sent kind plain place) (one_frame kind plain place) r
unfolding IsSendAnswer
told kind plain place (Ok f) (a, a_is, (p, p_is, (x, x_is, sent))) =
    let q = sent.1.squitter in
    let head = sent.1.sent in
    inr (
      is_head kind plain a p (omega (arith, head.ca, q.ca_in)) (omega (arith, head.address, q.address_in)) a_is p_is,
      inr (is_position place x x_is, (f, (a, a_is, (p, p_is, (x, x_is, sent))), refl)),
    )
told kind plain place (Err reasons.NoHead) h = inl (h, refl)
told kind plain place (Err reasons.NoPosition) h = inr (h.0, inl (h.1, refl))
told kind plain place (Err other) h = absurd h

one_send_answer : (kind : Kind) (plain : PlainHead kind) (place : PlainPosition) (r s : Result Frame Reason)
    → IsSendAnswer kind plain place r → IsSendAnswer kind plain place s → r ≡ s
one_send_answer kind plain place r s h k =
    one_told (PlainIsHead kind plain) place (Sent kind plain place) (one_frame kind plain place) r s
    (told kind plain place r h) (told kind plain place s k)

pub one_sent_of : (kind : Kind) → OneSent kind
one_sent_of kind head place =
    one_telling _ AreBytesOf as_it_is (one_send_answer kind head place) (λ a x y h k. h ∙ sym k)
