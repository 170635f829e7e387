use Rattle.squitter_c.proofs.plain_pins.answered_exactly.Goals as goal

pub returns : goal.returns
returns g c out fault was is before after n = (
  λ h. (h.below, h.answered),
  λ h. record { below = h.0; answered = h.1 },
)
