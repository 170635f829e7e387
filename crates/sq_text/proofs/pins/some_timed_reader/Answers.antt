use Rattle.sq_text.proofs.TimedReadings.{some_timed_reading}
use Rattle.sq_text.proofs.pins.some_timed_reader.Goals as goal

pub returns : goal.returns
returns c = record { read = λ text. (some_timed_reading text).0; reads = λ text. (some_timed_reading text).1 }
