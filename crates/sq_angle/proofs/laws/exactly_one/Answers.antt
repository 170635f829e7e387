use Rattle.std.proofs.Common.{sym, ◌∙◌}
use Rattle.sq_angle.proofs.laws.exactly_one.Goals as goal

pub returns : goal.returns
returns c test = (
  λ h. ((h.0, h.1), λ m n m_passes n_passes. h.2 m m_passes ∙ sym (h.2 n n_passes)),
  λ h. (h.0.0, h.0.1, λ n passes. h.1 n h.0.0 passes h.0.1),
)
