use Rattle.std.proofs.Common.{◌∙◌, ap, sym}
use Rattle.sq_cpr.specs.Grid.{code_of}
use Rattle.sq_cpr.proofs.encoding.encode.Goals as goal

pub returns-clause-code : goal.returns-clause-code
returns-clause-code g c =
    (c.nearest.result, c.nearest.ensures.parity, c.nearest.ensures.rounds, c.code.ensures)

pub returns-clause-only : goal.returns-clause-only
returns-clause-only g c =
    λ point parity rounds. c.code.ensures ∙ ap code_of (sym (c.nearest.ensures.only point parity rounds))
