use Rattle.std.proofs.Common.{◌∙◌, ◌++◌, ap, append-nil, sym}
use Rattle.sq_commands.proofs.Summaries.{comma_first, comma_next}
use Rattle.sq_commands.proofs.summary.push_comma.Goals as goal

pub returns-then-not-is_first-clause-bytes : goal.returns-then-not-is_first-clause-bytes
returns-then-not-is_first-clause-bytes c =
    c.push_str.ensures.bytes
    ∙ ap (λ l. c.args.text.now.bytes ++ l) (sym (comma_next c.args.is_first c.if-not-is_first.true))

pub returns-else-not-is_first-clause-bytes : goal.returns-else-not-is_first-clause-bytes
returns-else-not-is_first-clause-bytes c =
    sym (ap (λ l. c.args.text.now.bytes ++ l) (comma_first c.args.is_first c.if-not-is_first.false)
    ∙ append-nil c.args.text.now.bytes)
