-- Arguments have one first fault.
use Rattle.std.proofs.Common.{◌≡◌, ◌∙◌, ℕ, List, None, Some, Result, Err, ap, inl, inr, subst, sym}
use Rattle.sq_angle.specs.declared.angle.Angle.{Angle}
use Rattle.sq_angle.specs.declared.read.AngleFault.{AngleFault}
use Rattle.sq_angle.specs.Angle.{degrees}
use Rattle.sq_angle.specs.Fraction.{IsWithin}
use Rattle.sq_angle.proofs.OneReading.{one_reading}
use Rattle.sq_commands.specs.declared.arguments.ArgumentFault.{ArgumentFault}
use Rattle.sq_commands.specs.declared.arguments.ArgumentFault.TheVariants as faults
use Rattle.sq_commands.specs.Arguments.{IsAngleFault, IsAngleWord, IsFaultUnless}
use Rattle.sq_commands.specs.Laws.{OneEncodeFault, OneFeedFault, OnePositionFault, OneSiteFault, OneTrackFault}
use Rattle.sq_commands.proofs.ArgumentLemmas.{no_angle_read, one_angle_read}

-- an angle has one fault
one_angle_fault : (limit : ℕ) (word : List ℕ) (f g : AngleFault) → IsAngleFault limit word f → IsAngleFault limit word g
    → f ≡ g
one_angle_fault limit word f g (inl x) (inl y) =
    let same : ◌≡◌ {A = Result Angle AngleFault} (Err f) (Err g) = one_reading word (Err f) (Err g) x y in cc same
one_angle_fault limit word f g (inl x) (inr (is, (angle, reads, out))) = absurd (no_angle_read word f angle x reads)
one_angle_fault limit word f g (inr (is, (angle, reads, out))) (inl y) = absurd (no_angle_read word g angle y reads)
one_angle_fault limit word f g (inr (is, p)) (inr (same, q)) = is ∙ sym same

-- a good angle has none
pub good_angle : (limit : ℕ) (word : List ℕ) (f : AngleFault) → IsAngleWord limit word → IsAngleFault limit word f → ⊥
good_angle limit word f (angle, reads, within) (inl x) = no_angle_read word f angle x reads
good_angle limit word f (angle, reads, within) (inr (is, (other, reads', out))) =
    out (subst (λ (a : Angle). IsWithin limit (degrees a)) (one_angle_read word angle other reads reads') within)

pub one_position_fault : OnePositionFault
one_position_fault lat lon a b (inl (v, is, x)) (inl (w, same, y)) =
    is ∙ ap faults.Lat (one_angle_fault 90 lat v w x y) ∙ sym same
one_position_fault lat lon a b (inl (v, is, x)) (inr (w, same, good, y)) = absurd (good_angle 90 lat v good x)
one_position_fault lat lon a b (inr (v, is, good, x)) (inl (w, same, y)) = absurd (good_angle 90 lat w good y)
one_position_fault lat lon a b (inr (v, is, good, x)) (inr (w, same, _, y)) =
    is ∙ ap faults.Lon (one_angle_fault 180 lon v w x y) ∙ sym same

pub one_site_fault : OneSiteFault
one_site_fault None None a b x y = absurd x
one_site_fault None (Some lon) a b x y = x ∙ sym y
one_site_fault (Some lat) None a b x y = x ∙ sym y
one_site_fault (Some lat) (Some lon) a b x y = one_position_fault lat lon a b x y

-- of an argument that is not good there is one fault, and after a good one there is if there is of the next
one_unless : (Good : Type 0) (a b own : ArgumentFault) (NextA NextB : Type 0) → (NextA → NextB → a ≡ b)
    → IsFaultUnless Good a own NextA → IsFaultUnless Good b own NextB → a ≡ b
one_unless Good a b own NextA NextB next (inl (is, bad)) (inl (same, _)) = is ∙ sym same
one_unless Good a b own NextA NextB next (inl (is, bad)) (inr (good, y)) = absurd (bad good)
one_unless Good a b own NextA NextB next (inr (good, x)) (inl (same, bad)) = absurd (bad good)
one_unless Good a b own NextA NextB next (inr (good, x)) (inr (_, y)) = next x y

pub one_encode_fault : OneEncodeFault
one_encode_fault words a b =
    one_unless _ a b faults.Kind _ _
    (one_unless _ a b faults.Parity _ _
    (one_unless _ a b faults.Address _ _
    (one_unless _ a b faults.Feet _ _ (one_position_fault words.lat words.lon a b))))

pub one_track_fault : OneTrackFault
one_track_fault words a b =
    one_unless _ a b faults.Format _ _
    (one_unless _ a b faults.Limit _ _
    (one_unless _ a b faults.NoLimit _ _
    (one_unless _ a b faults.Window _ _ (one_site_fault words.lat words.lon a b))))

pub one_feed_fault : OneFeedFault
one_feed_fault words a b =
    one_unless _ a b faults.Format _ _ (one_unless _ a b faults.Reorder _ _ (λ x y. x.0 ∙ sym y.0))
