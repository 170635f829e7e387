-- A frame that is encoded again is unique, or has one fault.
use Rattle.std.proofs.Common.{◌≡◌, ◌∙◌, ◌⊎◌, ℕ, Result, Ok, Err, inl, inr, ap, refl, sym, subst}
use Rattle.sq_angle.specs.declared.position.Position.{Position}
use Rattle.sq_bits.specs.declared.frame.Frame.{Frame}
use Rattle.sq_zones.specs.declared.parity.Parity.{Parity}
use Rattle.sq_message.specs.declared.place.Place.{Place}
use Rattle.sq_message.specs.declared.place.Place.TheVariants.{Air, Ground}
use Rattle.sq_message.specs.declared.place.PlaceFault.TheVariants.{NotPosition}
use Rattle.sq_message.specs.declared.squitter.FrameFault.{FrameFault}
use Rattle.sq_message.specs.declared.squitter.Me.{Me}
use Rattle.sq_message.specs.declared.squitter.Me.TheVariants as kinds
use Rattle.sq_message.specs.declared.squitter.Squitter.{Squitter}
use Rattle.sq_message.specs.Kinds.{InAir, OnGround}
use Rattle.sq_message.specs.Parts.{Airborne, Surface, squitter_parts}
use Rattle.sq_message.specs.Places.{IsPosition, head_at}
use Rattle.sq_message.specs.Spelling.{IsReading}
use Rattle.sq_message.proofs.One.{one_reading}
use Rattle.sq_message.proofs.Same.{same_parity}
use Rattle.sq_text.specs.Faults.{of_frame}
use Rattle.squitter_c.specs.declared.faults.Reason.{Reason}
use Rattle.squitter_c.specs.declared.faults.Reason.TheVariants as reasons
use Rattle.squitter_c.specs.declared.plain.PlainPosition.{PlainPosition}
use Rattle.squitter_c.specs.Faults.{as_it_is}
use Rattle.squitter_c.specs.Plain.{IsFlag, IsOfDegrees, IsParity, PlainIsPosition}
use Rattle.squitter_c.proofs.OnePlain.{is_position, one_of_degrees}
use Rattle.squitter_c.proofs.OneTelling.{one_telling}
use Rattle.squitter_c.specs.OneAnswers.{OneSentAgain}
use Rattle.squitter_c.specs.Reading.{AreBytesOf}
use Rattle.squitter_c.specs.Sending.{IsAgainAnswer, IsFrameFrom, IsRoundedTo}
use Rattle.squitter_c.proofs.OneFrames.{one_of_equals, parity_is_flag}

-- ---- one frame of a squitter, a parity and a position

-- the airborne position of a message, or another one
abbrev airborne_of : Airborne → Me → Airborne
airborne_of other (kinds.Airborne airborne) = airborne
airborne_of other (kinds.Surface surface) = other
airborne_of other (kinds.Other raw) = other

-- the surface position of a message, or another one
abbrev surface_of : Surface → Me → Surface
surface_of other (kinds.Airborne airborne) = other
surface_of other (kinds.Surface surface) = surface
surface_of other (kinds.Other raw) = other

one_from : (q : Squitter) (p : Parity) (x : Position) (s t : Place) (f g : Frame) → IsRoundedTo p x s
    → IsRoundedTo p x t → IsFrameFrom q s f → IsFrameFrom q t g → f ≡ g
one_from q p x (Air m) (Air n) f g r s (a, (air, is, of), is_f, spells) (b, (other, same, of'), is_g, spelled) =
    one_of_equals InAir (head_at InAir (squitter_parts q) air) (head_at InAir (squitter_parts q) other) p p x x m n f g
    (ap (head_at InAir (squitter_parts q)) (ap (airborne_of air) (sym is ∙ same))) refl refl
    (record { of_parity = r.0; rounds = r.1; squitter = a; sent = of; is_frame = is_f; spelled = spells })
    (record { of_parity = s.0; rounds = s.1; squitter = b; sent = of'; is_frame = is_g; spelled = spelled })
one_from q p x (Air m) (Ground n) f g r s (a, (air, is, of), is_f, spells) (b, (other, same, of'), is_g, spelled) =
    absurd (cc (sym is ∙ same))
one_from q p x (Ground m) (Air n) f g r s (a, (land, is, of), is_f, spells) (b, (other, same, of'), is_g, spelled) =
    absurd (cc (sym is ∙ same))
one_from q p x (Ground m) (Ground n) f g r s (a, (land, is, of), is_f, spells) (b, (other, same, of'), is_g, spelled) =
    one_of_equals OnGround (head_at OnGround (squitter_parts q) land) (head_at OnGround (squitter_parts q) other) p p x
    x m n f g (ap (head_at OnGround (squitter_parts q)) (ap (surface_of land) (sym is ∙ same))) refl refl
    (record { of_parity = r.0; rounds = r.1; squitter = a; sent = of; is_frame = is_f; spelled = spells })
    (record { of_parity = s.0; rounds = s.1; squitter = b; sent = of'; is_frame = is_g; spelled = spelled })

-- a squitter that is encoded again at a place is a position
is_from_position : (q : Squitter) (s : Place) (f : Frame) → IsFrameFrom q s f → IsPosition (squitter_parts q).me
is_from_position q (Air m) f (a, (air, is, of), is_f, spells) = subst IsPosition (sym is) tt
is_from_position q (Ground m) f (a, (land, is, of), is_f, spells) = subst IsPosition (sym is) tt

-- ---- one result: the parity is checked first, then the position, then the frame

module _ (odd : ℕ) (plain : PlainPosition) where
  -- the squitter's frame with the parity and the code of the position
  abbrev Again : Squitter → Frame → Type 0
  Again q frame = (parity : Parity) × IsParity odd parity × ((position : Position) × IsOfDegrees plain position
      × ((place : Place) × IsRoundedTo parity position place × IsFrameFrom q place frame))

  one_again : (q : Squitter) (f g : Frame) → Again q f → Again q g → f ≡ g
  one_again q f g (p, p_is, (x, x_is, (s, rounds, from))) (p', p'_is, (x', x'_is, (t, rounds', from'))) =
      let parity : p' ≡ p = same_parity p' p (sym p'_is ∙ p_is) in
      let position : x' ≡ x = one_of_degrees plain x' x x'_is x_is in
      one_from q p x s t f g rounds
      (subst (λ u. IsRoundedTo u x t) parity (subst (λ u. IsRoundedTo p' u t) position rounds')) from from'

  -- the result for what the frame was read as
  abbrev OfRead : Result Squitter FrameFault → Result Frame Reason → Type 0
  OfRead (Ok q) answer = ((¬ (IsPosition (squitter_parts q).me)) × (answer ≡ Err (reasons.Place NotPosition)))
      ⊎ ((f : Frame) × Again q f × (answer ≡ Ok f))
  OfRead (Err fault) answer = answer ≡ Err (reasons.Line (of_frame fault))

  position_of_again : (q : Squitter) (f : Frame) → Again q f → IsPosition (squitter_parts q).me
  position_of_again q f (p, p_is, (x, x_is, (s, rounds, from))) = is_from_position q s f from

  one_of_read : (read : Result Squitter FrameFault) (r s : Result Frame Reason) → OfRead read r → OfRead read s → r ≡ s
  one_of_read (Ok q) r s (inl h) (inl k) = h.1 ∙ sym k.1
  one_of_read (Ok q) r s (inl h) (inr (f, again, is)) = absurd (h.0 (position_of_again q f again))
  one_of_read (Ok q) r s (inr (f, again, is)) (inl k) = absurd (k.0 (position_of_again q f again))
  one_of_read (Ok q) r s (inr (f, again, is)) (inr (g, again', is')) =
      is ∙ ap Ok (one_again q f g again again') ∙ sym is'
  one_of_read (Err fault) r s h k = h ∙ sym k

  abbrev Told : Frame → Result Frame Reason → Type 0
  Told frame answer = ((¬ (IsFlag odd)) × (answer ≡ Err reasons.NoParity))
      ⊎ (IsFlag odd × (((¬ (PlainIsPosition plain)) × (answer ≡ Err reasons.NoPosition))
      ⊎ (PlainIsPosition plain
      × ((read : Result Squitter FrameFault) × IsReading frame read × OfRead read answer))))

  one_told : (frame : Frame) (r s : Result Frame Reason) → Told frame r → Told frame s → r ≡ s
  one_told frame r s (inl h) (inl k) = h.1 ∙ sym k.1
  one_told frame r s (inl h) (inr k) = absurd (h.0 k.0)
  one_told frame r s (inr h) (inl k) = absurd (k.0 h.0)
  one_told frame r s (inr (a, inl h)) (inr (b, inl k)) = h.1 ∙ sym k.1
  one_told frame r s (inr (a, inl h)) (inr (b, inr k)) = absurd (h.0 k.0)
  one_told frame r s (inr (a, inr h)) (inr (b, inl k)) = absurd (k.0 h.0)
  one_told frame r s (inr (a, inr (_, (x, x_is, h)))) (inr (b, inr (_, (y, y_is, k)))) =
      one_of_read x r s h (subst (λ t. OfRead t s) (sym (one_reading frame x y x_is y_is)) k)

  told : (frame : Frame) (r : Result Frame Reason) → IsAgainAnswer frame odd plain r → Told frame r
  unfolding IsAgainAnswer
  told frame (Ok f) (p, p_is, (x, x_is, (q, spells, (s, rounds, from)))) = inr (
    parity_is_flag odd p p_is,
    inr (
      is_position plain x x_is,
      (Ok q, spells, inr (f, (p, p_is, (x, x_is, (s, rounds, from))), refl)),
    ),
  )
  told frame (Err reasons.NoParity) h = inl (h, refl)
  told frame (Err reasons.NoPosition) h = inr (h.0, inl (h.1, refl))
  told frame (Err (reasons.Line fault)) (flag, position, (of, of_is, is)) =
      inr (flag, inr (position, (Err of, of_is, ap (λ e. Err (reasons.Line e)) is)))
  told frame (Err (reasons.Place fault)) (flag, position, (q, spells, none, is)) =
      inr (flag, inr (position, (Ok q, spells, inl (none, ap (λ e. Err (reasons.Place e)) is))))
  told frame (Err other) h = absurd h

  one_again_answer : (frame : Frame) (r s : Result Frame Reason) → IsAgainAnswer frame odd plain r
      → IsAgainAnswer frame odd plain s → r ≡ s
  one_again_answer frame r s h k = one_told frame r s (told frame r h) (told frame s k)

pub one_sent_again : OneSentAgain
one_sent_again frame odd plain =
    one_telling _ AreBytesOf as_it_is (one_again_answer odd plain frame) (λ a x y h k. h ∙ sym k)
