use Rattle.sq_message.proofs.Exact.{altitude_exactly as the_law}
use Rattle.sq_message.proofs.pins.altitude_exactly.Goals as goal

pub returns : goal.returns
returns c = the_law
