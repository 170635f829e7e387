use Rattle.sq_angle.proofs.Fractions.{within_window}
use Rattle.sq_angle.proofs.laws.within_as_fractions.Goals as goal

pub returns : goal.returns
returns c = within_window
