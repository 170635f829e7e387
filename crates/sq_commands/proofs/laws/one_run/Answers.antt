use Rattle.sq_commands.proofs.OneRuns.Runs.{one_run, one_run_aside}
use Rattle.sq_commands.proofs.laws.one_run.Goals as goal

pub returns-clause-alike : goal.returns-clause-alike
returns-clause-alike g c = one_run g.S.Source g.K.Sink g.F.Sink g.T.Source g.L.Sink g.G.Sink

pub returns-clause-aside : goal.returns-clause-aside
returns-clause-aside g c = one_run_aside g.S.Source g.K.Sink g.F.Sink g.T.Source g.L.Sink g.G.Sink
