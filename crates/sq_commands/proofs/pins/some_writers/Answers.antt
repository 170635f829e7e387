use Rattle.sq_commands.proofs.SomeWriters.{some_writers}
use Rattle.sq_commands.proofs.pins.some_writers.Goals as goal

pub returns : goal.returns
returns c = some_writers
