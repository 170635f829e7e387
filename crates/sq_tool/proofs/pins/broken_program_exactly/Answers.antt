use Rattle.sq_tool.proofs.OneRuns.{broken_program}
use Rattle.sq_tool.proofs.pins.broken_program_exactly.Goals as goal

pub returns : goal.returns
returns g c = broken_program g.S.Source g.K.Sink g.F.Sink
