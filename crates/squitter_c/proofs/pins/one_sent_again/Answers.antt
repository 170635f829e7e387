use Rattle.squitter_c.proofs.OneAgain.{one_sent_again}
use Rattle.squitter_c.proofs.pins.one_sent_again.Goals as goal

pub returns : goal.returns
returns c = one_sent_again
