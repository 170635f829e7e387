use Rattle.sq_commands.proofs.OneRuns.Runs.{one_run}
use Rattle.sq_tool.proofs.OneRuns.{one_program_run}
use Rattle.sq_tool.proofs.laws.one_program_run.Goals as goal

pub returns : goal.returns
returns g c =
    one_program_run g.S.Source g.K.Sink g.F.Sink g.T.Source g.L.Sink g.G.Sink c.one_request.ensures
    (one_run g.S.Source g.K.Sink g.F.Sink g.T.Source g.L.Sink g.G.Sink)
