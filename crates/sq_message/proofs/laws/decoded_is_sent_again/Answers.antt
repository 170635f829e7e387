use Rattle.sq_message.proofs.SentFrames.{sent_again}
use Rattle.sq_message.proofs.laws.decoded_is_sent_again.Goals as goal

pub returns : goal.returns
returns c = sent_again
