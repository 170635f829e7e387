use Rattle.std.proofs.Common.{rules}
use Rattle.sq_cpr.proofs.Grids.Points.{same_points}
use Rattle.sq_cpr.proofs.pins.equal_points.Goals as goal

pub returns-clause-indices : goal.returns-clause-indices
returns-clause-indices g c =
    let s = g.S.Span in
    let same = same_points s.span c.args.a.now c.args.b.now c.parity.ensures.of_grid
    c.parity-2.ensures.of_grid in
    search rules
