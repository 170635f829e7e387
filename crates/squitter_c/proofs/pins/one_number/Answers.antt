use Rattle.squitter_c.proofs.OneAnswers.{one_number}
use Rattle.squitter_c.proofs.pins.one_number.Goals as goal

pub returns : goal.returns
returns c = one_number
