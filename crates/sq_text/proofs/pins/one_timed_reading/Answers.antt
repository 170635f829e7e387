use Rattle.sq_text.proofs.TimedReadings.{one_timed_reading}
use Rattle.sq_text.proofs.pins.one_timed_reading.Goals as goal

pub returns : goal.returns
returns c = one_timed_reading
