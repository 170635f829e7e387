use Rattle.std.proofs.Common.{◌∙◌, sym, ap, rules}
use Rattle.sq_log.specs.Content.{content}
use Rattle.sq_log.proofs.Contents.{content-long, content-short}
use Rattle.sq_log.proofs.lines.content_of.Goals as goal

pub returns-then-long : goal.returns-then-long
returns-then-long c = λ line h. sym (content-long c.args.cutter.now line h (search rules))

pub returns : goal.returns
returns c = λ line h. c.content_in.ensures ∙ ap content c.line.ensures
    ∙ content-short c.args.cutter.now line h (search rules)
