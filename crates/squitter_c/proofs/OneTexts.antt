-- An angle has at most one text, in bytes of one length.
use Rattle.std.proofs.Common.{◌≡◌, ◌∙◌, ℕ, List, Result, Ok, Err, ap, length, slice_index, subst, sym}
use Rattle.std.proofs.lemmas.List.{ext_get_or}
use Rattle.sq_angle.specs.declared.angle.Angle.{Angle}
use Rattle.sq_angle.specs.Angle.{degrees}
use Rattle.sq_angle.proofs.OneText.{one_decimal7}
use Rattle.squitter_c.specs.declared.faults.Fault.{Fault}
use Rattle.squitter_c.specs.declared.faults.Reason.{Reason}
use Rattle.squitter_c.specs.Faults.{Tells, as_it_is}
use Rattle.squitter_c.specs.Angles.{HoldsDecimal7}
use Rattle.squitter_c.specs.Pinned.{OneAngleText}
use Rattle.squitter_c.proofs.OneAnswers.{one_angle_answer}

one_text : (angle : Angle) (x y : List ℕ) → length x ≡ length y → HoldsDecimal7 angle x → HoldsDecimal7 angle y → x ≡ y
one_text angle x y long (t, t_is, h) (u, u_is, k) =
    let same : t ≡ u = one_decimal7 (degrees angle) t u angle.in_range.positive t_is u_is in
    ext_get_or 0 x y long (λ i below. h.each i ∙ ap (λ z. slice_index z i) same ∙ sym (k.each i))

text_twice : (r : Result Angle Reason) (old x y : List ℕ) (d e : Fault) → length x ≡ length y
    → Tells HoldsDecimal7 as_it_is r old x d → Tells HoldsDecimal7 as_it_is r old y e → (x ≡ y) × (d ≡ e)
text_twice (Ok a) old x y d e long h k = (one_text a x y long h.0 k.0, h.1 ∙ sym k.1)
text_twice (Err reason) old x y d e long h k = (h.0 ∙ sym k.0, h.1 ∙ sym k.1)

pub one_angle_text : OneAngleText
one_angle_text plain old x y d e long (r, r_is, h) (s, s_is, k) =
    text_twice r old x y d e long h
    (subst (λ t. Tells HoldsDecimal7 as_it_is t old y e) (sym (one_angle_answer plain r s r_is s_is)) k)
