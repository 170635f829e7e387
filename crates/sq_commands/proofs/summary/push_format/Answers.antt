use Rattle.std.proofs.Common.{◌∙◌, ◌++◌, ap, false}
use Rattle.std.specs.Prelude.{codes, decimal}
use Rattle.sq_commands.specs.Summary.{rest_of}
use Rattle.sq_commands.proofs.Summaries.{format_pushed, format_skipped}
use Rattle.sq_commands.proofs.summary.push_format.Goals as goal

pub returns-then-count-eq0-clause-bytes : goal.returns-then-count-eq0-clause-bytes
returns-then-count-eq0-clause-bytes c =
    format_skipped c.args.text.now.bytes c.args.is_first c.args.format c.args.count c.if-count-eq0.true

pub returns-clause-bytes : goal.returns-clause-bytes
returns-clause-bytes c = λ more.
    ap (λ l. l ++ rest_of false more)
    (c.push_decimal-2.ensures.bytes
    ∙ ap (λ l. l ++ decimal c.args.count)
    (c.push_str-2.ensures.bytes
    ∙ ap (λ l. l ++ codes " ")
    (c.push_decimal.ensures.bytes
    ∙ ap (λ l. l ++ decimal c.args.format)
    (c.push_str.ensures.bytes ∙ ap (λ l. l ++ codes "DF") c.push_comma.ensures.bytes))))
    ∙ format_pushed c.args.text.now.bytes c.args.is_first c.args.format c.args.count c.if-count-eq0.false more
