use Rattle.sq_message.proofs.Exact.{decoded_by_calls as the_law}
use Rattle.sq_message.proofs.laws.decoded_by_calls.Goals as goal

pub returns : goal.returns
returns c = the_law
