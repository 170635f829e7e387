-- Frames of positions in the same zones, and of one position.
use Rattle.std.proofs.Common.{◌≡◌, ◌∙◌, ap, sym, subst, refl}
use Rattle.sq_bits.specs.declared.frame.Frame.{Frame}
use Rattle.sq_angle.specs.Angle.{degrees}
use Rattle.sq_angle.specs.Position.{lat_of, lon_of}
use Rattle.sq_zones.specs.declared.parity.Parity.{Parity}
use Rattle.sq_cpr.specs.declared.code.Code.{Code}
use Rattle.sq_cpr.specs.Code.{CodeNumbers, numbers_of}
use Rattle.sq_cpr.specs.Span.{FitsCircle}
use Rattle.sq_cpr.specs.Grid.{Point, code_of}
use Rattle.sq_cpr.proofs.Grids.SameCode.{same_code}
use Rattle.sq_cpr.proofs.Grids.Codes.{same_zones as same_zones_of_span}
use Rattle.sq_message.specs.declared.squitter.Me.{Me}
use Rattle.sq_message.specs.declared.squitter.Me.TheVariants as kinds
use Rattle.sq_message.specs.declared.squitter.Squitter.{Squitter}
use Rattle.sq_message.specs.Kinds.{Kind, HeadParts, InAir, OnGround, me_of, span_of}
use Rattle.sq_message.specs.Parts.{squitter_parts}
use Rattle.sq_message.specs.Spelling.{Spells}
use Rattle.sq_message.specs.Sending.{IsSquitterOf, SameZones}
use Rattle.sq_message.proofs.Same.{same_squitter}
use Rattle.sq_message.proofs.One.{one_squitter, one_frame}
use Rattle.sq_cpr.proofs.Grids.Points.{rounds_once}
use Rattle.sq_message.specs.Headline.{OneFrameSent}

-- the spans of both kinds make up the circle
pub fits : (kind : Kind) → FitsCircle (span_of kind)
fits InAir = refl
fits OnGround = refl

-- squitters of one head and one point are equal
pub same_sent : (kind : Kind) (head : HeadParts kind) (p : Point) (a b : Squitter)
    → IsSquitterOf kind head p (squitter_parts a) → IsSquitterOf kind head p (squitter_parts b) → a ≡ b
same_sent kind head p a b h k =
    let numbers = h.numbers ∙ sym k.numbers in
    let code = same_code h.code k.code (ap (λ (n : CodeNumbers). n.lat) numbers)
    (ap (λ (n : CodeNumbers). n.lon) numbers) in
    same_squitter a b (h.ca ∙ sym k.ca) (h.address ∙ sym k.address)
    (h.me ∙ ap (λ (c : Code). me_of kind head p.parity c) code ∙ sym k.me)

-- the code of a message, or `other` if it has none
code_in : Code → Me → Code
code_in other (kinds.Airborne airborne) = airborne.code
code_in other (kinds.Surface surface) = surface.code
code_in other (kinds.Other raw) = other

-- the message made of a head, a parity and a code has that code
code_in-own : (kind : Kind) (head : HeadParts kind) (parity : Parity) (code other : Code)
    → code_in other (me_of kind head parity code) ≡ code
unfolding code_in
code_in-own InAir head parity code other = refl
code_in-own OnGround head parity code other = refl

-- points from which one squitter is sent have the same code
one_code : (kind : Kind) (head : HeadParts kind) (p q : Point) (a b : Squitter) → a ≡ b
    → IsSquitterOf kind head p (squitter_parts a) → IsSquitterOf kind head q (squitter_parts b)
    → code_of p ≡ code_of q
one_code kind head p q a b e h k =
    let me : me_of kind head p.parity h.code ≡ me_of kind head q.parity k.code =
    sym h.me ∙ ap (λ (x : Squitter). x.me) e ∙ k.me in
    let code : h.code ≡ k.code = sym (code_in-own kind head p.parity h.code h.code) ∙ ap (code_in h.code) me
    ∙ code_in-own kind head q.parity k.code h.code in
    sym h.numbers ∙ ap numbers_of code ∙ k.numbers

pub same_zones : (kind : Kind) → SameZones kind
same_zones kind head parity here there zones p q f g in_p in_q h k = (
  λ (e : f ≡ g).
      let spelled : Spells f k.squitter = subst (λ (x : Frame). Spells x k.squitter) (sym e) k.spelled in
      let code = one_code kind head p q h.squitter k.squitter
      (one_squitter f h.squitter k.squitter h.spelled spelled) h.sent k.sent in
      let law = same_zones_of_span (span_of kind) (fits kind) parity (degrees (lat_of here)) (degrees (lon_of here))
      (degrees (lat_of there)) (degrees (lon_of there)) zones p q in
      (law in_p in_q h.of_parity k.of_parity h.rounds k.rounds).0 code,
  λ (e : p ≡ q).
      let sent : IsSquitterOf kind head q (squitter_parts h.squitter) =
      subst (λ (x : Point). IsSquitterOf kind head x (squitter_parts h.squitter)) e h.sent in
      let spelled : Spells f k.squitter =
      subst (Spells f) (same_sent kind head q h.squitter k.squitter sent k.sent) h.spelled in
      one_frame f g k.squitter h.is_frame k.is_frame spelled k.spelled,
)

pub one_sent : (kind : Kind) → OneFrameSent kind
one_sent kind head parity x p q f g h k =
    let point = rounds_once (span_of kind) _ _ p q (h.of_parity ∙ sym k.of_parity) h.rounds k.rounds in
    let squitter = same_sent kind head p h.squitter k.squitter h.sent
    (subst (λ t. IsSquitterOf kind head t (squitter_parts k.squitter)) (sym point) k.sent) in
    one_frame f g h.squitter h.is_frame k.is_frame h.spelled (subst (λ s. Spells g s) (sym squitter) k.spelled)
