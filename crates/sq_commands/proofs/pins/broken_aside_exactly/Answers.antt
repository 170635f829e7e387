use Rattle.sq_commands.proofs.BrokenRuns.{broken_aside}
use Rattle.sq_commands.proofs.pins.broken_aside_exactly.Goals as goal

pub returns : goal.returns
returns g c = broken_aside g.S.Source g.K.Sink g.F.Sink
