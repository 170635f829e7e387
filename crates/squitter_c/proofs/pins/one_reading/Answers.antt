use Rattle.squitter_c.proofs.OneAnswers.{one_reading_of}
use Rattle.squitter_c.proofs.pins.one_reading.Goals as goal

pub returns : goal.returns
returns c = one_reading_of
