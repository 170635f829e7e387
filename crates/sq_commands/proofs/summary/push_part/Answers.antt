use Rattle.std.proofs.Common.{◌∙◌, ◌++◌, ap, append-nil, sym}
use Rattle.std.specs.Prelude.{decimal}
use Rattle.sq_commands.proofs.Summaries.{part_none, part_pushed}
use Rattle.sq_commands.proofs.summary.push_part.Goals as goal

pub returns-then-count-eq0-clause-bytes : goal.returns-then-count-eq0-clause-bytes
returns-then-count-eq0-clause-bytes c =
    sym (ap (λ l. c.args.text.now.bytes ++ l) (part_none c.args.count c.args.name.now c.if-count-eq0.true)
    ∙ append-nil c.args.text.now.bytes)

pub returns-clause-bytes : goal.returns-clause-bytes
returns-clause-bytes c =
    c.push_str-2.ensures.bytes
    ∙ ap (λ l. l ++ c.args.name.now)
    (c.push_decimal.ensures.bytes ∙ ap (λ l. l ++ decimal c.args.count) c.push_str.ensures.bytes)
    ∙ part_pushed c.args.text.now.bytes c.args.name.now c.args.count c.if-count-eq0.false
