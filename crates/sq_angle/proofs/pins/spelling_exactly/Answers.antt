use Rattle.sq_angle.proofs.SpellingParts.{of_characters, to_characters}
use Rattle.sq_angle.proofs.pins.spelling_exactly.Goals as goal

pub returns : goal.returns
returns c p = (to_characters p, λ h. of_characters p h.0 h.1)
