use Rattle.sq_angle.proofs.OneSpelling.{one_spelling}
use Rattle.sq_angle.proofs.pins.one_spelling.Goals as goal

pub returns : goal.returns
returns c = one_spelling
