use Rattle.sq_angle.proofs.OneText.{one_decimal7}
use Rattle.sq_angle.proofs.pins.one_decimal7.Goals as goal

pub returns : goal.returns
returns c = one_decimal7
