use Rattle.sq_message.proofs.One.{one_frame as the_law}
use Rattle.sq_message.proofs.pins.one_frame.Goals as goal

pub returns : goal.returns
returns c = the_law
