use Rattle.sq_text.proofs.SomeReading.{some_squitter_reading}
use Rattle.sq_text.proofs.pins.some_reader.Goals as goal

pub returns : goal.returns
returns c = record { read = λ text. (some_squitter_reading text).0; reads = λ text. (some_squitter_reading text).1 }
