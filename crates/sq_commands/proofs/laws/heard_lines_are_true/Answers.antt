use Rattle.sq_commands.proofs.laws.heard_lines_are_true.Goals as goal

pub returns : goal.returns
returns g c telling old new lines reader writers history result first last heard stands =
    let h = heard reader writers history stands in
    (h.0, h.1, h.2, h.4)
