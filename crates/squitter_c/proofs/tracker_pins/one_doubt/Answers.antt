use Rattle.std.proofs.Common.{◌≡◌, ◌∙◌, Option, Some, None, ap, refl, sym}
use Rattle.sq_angle.specs.declared.position.Position.{Position}
use Rattle.squitter_c.specs.Watch.{IsPlaceOf, doubts_of, watch_of}
use Rattle.squitter_c.specs.declared.plain.PlainPosition.{PlainPosition}
use Rattle.squitter_c.proofs.Entries.{one_fix}
use Rattle.squitter_c.proofs.OnePlain.{is_position, one_of_degrees}
use Rattle.squitter_c.proofs.tracker_pins.one_doubt.Goals as goal

one_place : (plain : PlainPosition) (x y : Option Position) → IsPlaceOf plain x → IsPlaceOf plain y → x ≡ y
one_place plain (Some p) (Some q) p_is q_is = ap Some (one_of_degrees plain p q p_is q_is)
one_place plain (Some p) None p_is q_is = absurd (q_is (is_position plain p p_is))
one_place plain None (Some q) p_is q_is = absurd (p_is (is_position plain q q_is))
one_place plain None None p_is q_is = refl

pub returns : goal.returns
returns c watch site before moment place m n (s, b, p, s_is, b_is, p_is, m_is) (t, d, q, t_is, d_is, q_is, n_is) =
    let same_site = one_place site s t s_is t_is in
    let same_before = one_fix before b d b_is d_is in
    let same_place = one_place place p q p_is q_is in
    m_is ∙ (λ i. doubts_of (watch_of watch) (same_site i) (same_before i) moment (same_place i)) ∙ sym n_is
