-- A frame encodes at most one squitter.
use Rattle.std.proofs.Common.{◌≡◌, ◌/◌, ◌^◌, Result, Ok, Err, MatchResult, sym, ◌∙◌, ap, arith}
use Rattle.sq_bits.specs.declared.frame.Frame.{Frame}
use Rattle.sq_bits.specs.Frames.{field_of, frame_number, IsFrame}
use Rattle.sq_bits.proofs.Spelled.{leading_field, join_fields}
use Rattle.sq_bits.proofs.Multiples.{remainder_of_multiple, IsRemainder-unique}
use Rattle.sq_bits.proofs.Spelled.{same_sealed}
use Rattle.sq_message.specs.Kinds.{Kind, FieldsOf, InAir, OnGround, PositionOf}
use Rattle.sq_message.specs.declared.squitter.FrameFault.{FrameFault}
use Rattle.sq_message.specs.declared.squitter.FrameFault.TheVariants as faults
use Rattle.sq_message.specs.declared.other.Other.{Other}
use Rattle.sq_message.specs.declared.squitter.Me.{Me}
use Rattle.sq_message.specs.declared.squitter.Me.TheVariants as kinds
use Rattle.sq_message.specs.declared.squitter.Squitter.{Squitter}
use Rattle.sq_message.specs.TypeCodes.{IsOtherCode}
use Rattle.sq_zones.specs.declared.parity.Parity.{Parity}
use Rattle.sq_cpr.specs.declared.code.Code.{Code}
use Rattle.sq_cpr.specs.Code.{CodeNumbers, numbers_of}
use Rattle.sq_cpr.proofs.Grids.SameCode.{same_code}
use Rattle.sq_message.specs.Spelling.{IsFault, IsReading, Spells, SpellsFields, SpellsMe, SpellsPlace, SpellsPosition}
use Rattle.sq_message.proofs.Same.{same_bit, same_parity, same_air_fields, same_ground_fields, same_other}
use Rattle.sq_message.proofs.Same.{same_squitter}

-- two parities and codes in the same bits are equal
same_place : (f : Frame) (p q : Parity) (a b : Code) → SpellsPlace f p (numbers_of a) → SpellsPlace f q (numbers_of b)
    → (p ≡ q) × (a ≡ b)
same_place f p q a b x y = (
  same_parity p q (sym x.parity_bit ∙ y.parity_bit),
  same_code a b (sym x.lat ∙ y.lat) (sym x.lon ∙ y.lon),
)

same_fields : (kind : Kind) (f : Frame) (a b : FieldsOf kind) → SpellsFields kind f a → SpellsFields kind f b → a ≡ b
same_fields InAir f a b m n =
    same_air_fields a b (sym m.type_code ∙ n.type_code) (sym m.status ∙ n.status)
    (same_bit a.flag b.flag (sym m.flag ∙ n.flag)) (sym m.altitude ∙ n.altitude)
    (same_bit a.time b.time (sym m.time ∙ n.time))
same_fields OnGround f a b m n =
    same_ground_fields a b (sym m.type_code ∙ n.type_code) (sym m.movement ∙ n.movement)
    (same_bit a.track_status b.track_status (sym m.track_status ∙ n.track_status)) (sym m.track ∙ n.track)
    (same_bit a.time b.time (sym m.time ∙ n.time))

same_position : (kind : Kind) (f : Frame) (a b : PositionOf kind) → SpellsPosition kind f a → SpellsPosition kind f b
    → a ≡ b
same_position kind f a b x y =
    let fields = same_fields kind f a.fields b.fields x.fields y.fields in
    let place = same_place f a.parity b.parity a.code b.code x.place y.place in
    λ i. record { fields = fields i; parity = place.0 i; code = place.1 i }

other_code : (f : Frame) (o : Other) → field_of f 33 56 ≡ o.raw → IsOtherCode (field_of f 33 5)
other_code f o raw =
    let code : o.raw / 2 ^ 51 ≡ field_of f 33 5 = ap (λ x. x / 2 ^ 51) (sym raw) ∙ leading_field f 33 5 51 in
    rw code at o.type_code_in

same_me : (f : Frame) (m n : Me) → SpellsMe f m → SpellsMe f n → m ≡ n
same_me f (kinds.Airborne a) (kinds.Airborne b) x y = ap kinds.Airborne (same_position InAir f a b x y)
same_me f (kinds.Airborne a) (kinds.Surface b) x y =
    absurd (omega (arith, a.fields.type_code_in, b.fields.type_code_in, x.fields.type_code, y.fields.type_code))
same_me f (kinds.Airborne a) (kinds.Other b) x y =
    absurd ((other_code f b y).0 (rw x.fields.type_code a.fields.type_code_in))
same_me f (kinds.Surface a) (kinds.Airborne b) x y =
    absurd (omega (arith, a.fields.type_code_in, b.fields.type_code_in, x.fields.type_code, y.fields.type_code))
same_me f (kinds.Surface a) (kinds.Surface b) x y = ap kinds.Surface (same_position OnGround f a b x y)
same_me f (kinds.Surface a) (kinds.Other b) x y =
    absurd ((other_code f b y).1 (rw x.fields.type_code a.fields.type_code_in))
same_me f (kinds.Other a) (kinds.Airborne b) x y =
    absurd ((other_code f a x).0 (rw y.fields.type_code b.fields.type_code_in))
same_me f (kinds.Other a) (kinds.Surface b) x y =
    absurd ((other_code f a x).1 (rw y.fields.type_code b.fields.type_code_in))
same_me f (kinds.Other a) (kinds.Other b) x y = ap kinds.Other (same_other a b (sym x ∙ y))

pub one_squitter : (f : Frame) (p q : Squitter) → Spells f p → Spells f q → p ≡ q
one_squitter f p q x y = same_squitter p q (sym x.ca ∙ y.ca) (sym x.address ∙ y.address) (same_me f p.me q.me x.me y.me)

-- a frame that encodes a squitter has no error
pub no_fault : (f : Frame) (q : Squitter) (e : FrameFault) → Spells f q → IsFault f e → ⊥
no_fault f q (faults.NotDf17 format) x (is, other) = other (sym is ∙ x.format)
no_fault f q (faults.Parity r) x (is, remainder, other) =
    other (remainder_of_multiple (frame_number f) r x.multiple remainder)

-- every reading of a frame that encodes a squitter is that squitter
pub read_exactly : (f : Frame) (r : Result Squitter FrameFault) → MatchResult r (Spells f) (IsFault f) → (q : Squitter)
    → Spells f q → r ≡ Ok q
read_exactly f (Ok p) h q x = ap Ok (one_squitter f p q h x)
read_exactly f (Err e) h q x = absurd (no_fault f q e x h)

-- frames with the same parity and code agree on the 35 bits of both
same_place_field : (f g : Frame) (parity : Parity) (code : CodeNumbers) → SpellsPlace f parity code
    → SpellsPlace g parity code → field_of f 54 35 ≡ field_of g 54 35
same_place_field f g parity code x y =
    join_fields f g 54 1 34 (x.parity_bit ∙ sym y.parity_bit)
    (join_fields f g 55 17 17 (x.lat ∙ sym y.lat) (x.lon ∙ sym y.lon))

-- frames with the same message agree on its 56 bits
same_me_field : (f g : Frame) (m : Me) → SpellsMe f m → SpellsMe g m → field_of f 33 56 ≡ field_of g 33 56
same_me_field f g (kinds.Airborne a) x y =
    join_fields f g 33 5 51 (x.fields.type_code ∙ sym y.fields.type_code)
    (join_fields f g 38 2 49 (x.fields.status ∙ sym y.fields.status)
    (join_fields f g 40 1 48 (x.fields.flag ∙ sym y.fields.flag)
    (join_fields f g 41 12 36 (x.fields.altitude ∙ sym y.fields.altitude)
    (join_fields f g 53 1 35 (x.fields.time ∙ sym y.fields.time)
    (same_place_field f g a.parity (numbers_of a.code) x.place y.place)))))
same_me_field f g (kinds.Surface s) x y =
    join_fields f g 33 5 51 (x.fields.type_code ∙ sym y.fields.type_code)
    (join_fields f g 38 7 44 (x.fields.movement ∙ sym y.fields.movement)
    (join_fields f g 45 1 43 (x.fields.track_status ∙ sym y.fields.track_status)
    (join_fields f g 46 7 36 (x.fields.track ∙ sym y.fields.track)
    (join_fields f g 53 1 35 (x.fields.time ∙ sym y.fields.time)
    (same_place_field f g s.parity (numbers_of s.code) x.place y.place)))))
same_me_field f g (kinds.Other o) x y = x ∙ sym y

-- a squitter has at most one frame
pub one_frame : (f g : Frame) (q : Squitter) → IsFrame f → IsFrame g → Spells f q → Spells g q → f ≡ g
one_frame f g q is_f is_g x y =
    same_sealed f g is_f is_g x.multiple y.multiple
    (join_fields f g 1 5 83 (x.format ∙ sym y.format)
    (join_fields f g 6 3 80 (x.ca ∙ sym y.ca)
    (join_fields f g 9 24 56 (x.address ∙ sym y.address) (same_me_field f g q.me x.me y.me))))

-- a frame has at most one error
pub same_fault : (f : Frame) (d e : FrameFault) → IsFault f d → IsFault f e → d ≡ e
same_fault f (faults.NotDf17 a) (faults.NotDf17 b) x y = ap faults.NotDf17 (sym x.0 ∙ y.0)
same_fault f (faults.NotDf17 a) (faults.Parity b) x y = absurd (x.1 (sym x.0 ∙ y.0))
same_fault f (faults.Parity a) (faults.NotDf17 b) x y = absurd (y.1 (sym y.0 ∙ x.0))
same_fault f (faults.Parity a) (faults.Parity b) x y =
    ap faults.Parity (IsRemainder-unique (frame_number f) a b x.1 y.1)

-- a frame has at most one reading
pub one_reading : (f : Frame) (r s : Result Squitter FrameFault) → IsReading f r → IsReading f s → r ≡ s
one_reading f (Ok p) (Ok q) x y = ap Ok (one_squitter f p q x y)
one_reading f (Ok p) (Err e) x y = absurd (no_fault f p e x y)
one_reading f (Err d) (Ok q) x y = absurd (no_fault f q d y x)
one_reading f (Err d) (Err e) x y = ap Err (same_fault f d e x y)
