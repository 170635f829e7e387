use Rattle.std.proofs.Common.{◌∙◌, ap₂, ◌||◌}
use Rattle.clap.specs.Words.{with_rule}
use Rattle.sq_words.proofs.Building.{added, own}
use Rattle.sq_words.proofs.command_line.feed_command.Goals as goal

pub returns-clause-app : goal.returns-clause-app
returns-clause-app c =
    let one = c.in_ok-arg.ensures.shape c.option.ensures.here
    ∙ ap₂ with_rule c.command.ensures.app c.option.ensures.rule in
    let two = c.in_ok-arg-2.ensures.shape c.option-2.ensures.here ∙ ap₂ with_rule one c.option-2.ensures.rule in
    let three = c.in_ok-arg-3.ensures.shape c.option-3.ensures.here
    ∙ ap₂ with_rule two c.option-3.ensures.rule in
    let four = c.in_ok-arg-4.ensures.shape c.flag.ensures.here ∙ ap₂ with_rule three c.flag.ensures.rule in
    added _ _ c.arg-5.result c.arg-5.ensures four c.flag-2.ensures.rule c.flag-2.ensures.here

pub returns-clause-own : goal.returns-clause-own
returns-clause-own c =
    let one = c.in_ok-arg.ensures.globals ∙ ap₂ ◌||◌ c.command.ensures.own c.option.ensures.here in
    let two = c.in_ok-arg-2.ensures.globals ∙ ap₂ ◌||◌ one c.option-2.ensures.here in
    let three = c.in_ok-arg-3.ensures.globals ∙ ap₂ ◌||◌ two c.option-3.ensures.here in
    let four = c.in_ok-arg-4.ensures.globals ∙ ap₂ ◌||◌ three c.flag.ensures.here in
    own _ _ c.arg-5.result c.arg-5.ensures four c.flag-2.ensures.here
