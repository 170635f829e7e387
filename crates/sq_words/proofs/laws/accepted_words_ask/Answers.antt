use Rattle.sq_words.proofs.Accepted.{accepted_asks}
use Rattle.sq_words.proofs.laws.accepted_words_ask.Goals as goal

-- the proof over the definitions
pub returns : goal.returns
returns c = accepted_asks
