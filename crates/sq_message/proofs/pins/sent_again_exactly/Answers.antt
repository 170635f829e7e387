use Rattle.sq_message.proofs.Exact.{sent_again_exactly as the_law}
use Rattle.sq_message.proofs.pins.sent_again_exactly.Goals as goal

pub returns : goal.returns
returns c = the_law
