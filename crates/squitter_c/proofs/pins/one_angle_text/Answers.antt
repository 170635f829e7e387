use Rattle.squitter_c.proofs.OneTexts.{one_angle_text as the_law}
use Rattle.squitter_c.proofs.pins.one_angle_text.Goals as goal

pub returns : goal.returns
returns c = the_law
