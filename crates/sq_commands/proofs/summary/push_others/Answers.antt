use Rattle.std.proofs.Common.{◌∙◌, ◌++◌, ap}
use Rattle.std.specs.Prelude.{codes, decimal}
use Rattle.sq_commands.specs.Summary.{format_texts, joined}
use Rattle.sq_commands.proofs.Summaries.{others_none, others_pushed}
use Rattle.sq_commands.proofs.summary.push_others.Goals as goal

pub returns-then-others-eq0-clause-bytes : goal.returns-then-others-eq0-clause-bytes
returns-then-others-eq0-clause-bytes c =
    others_none c.args.text.now.bytes c.args.counts.now.formats c.others_of-others.result c.others_of-others.ensures
    c.if-others-eq0.true

pub returns-clause-bytes : goal.returns-clause-bytes
returns-clause-bytes c =
    let counts = c.args.counts.now.formats in
    c.push_str-3.ensures.bytes
    ∙ ap (λ l. l ++ codes ")") (c.push_formats.ensures.bytes
    ∙ ap (λ l. l ++ joined (format_texts 0 c.formats.result)) (c.push_str-2.ensures.bytes
    ∙ ap (λ l. l ++ codes " of other downlink formats (") (c.push_decimal.ensures.bytes
    ∙ ap (λ l. l ++ decimal c.others_of-others.result) c.push_str.ensures.bytes)))
    ∙ ap (λ k. ((((c.args.text.now.bytes ++ codes ", ") ++ decimal c.others_of-others.result)
    ++ codes " of other downlink formats (") ++ joined (format_texts 0 k)) ++ codes ")") c.formats.ensures
    ∙ others_pushed c.args.text.now.bytes counts c.others_of-others.result c.others_of-others.ensures
    c.if-others-eq0.false
