use Rattle.std.proofs.Common.{◌∙◌, ap₂, ◌||◌}
use Rattle.clap.specs.Words.{with_rule}
use Rattle.sq_words.proofs.Building.{added, own}
use Rattle.sq_words.proofs.command_line.local_command.Goals as goal

pub returns-clause-app : goal.returns-clause-app
returns-clause-app c =
    let one = c.in_ok-arg.ensures.shape c.argument.ensures.here
    ∙ ap₂ with_rule c.command.ensures.app c.argument.ensures.rule in
    let two = c.in_ok-arg-2.ensures.shape c.required_option.ensures.here
    ∙ ap₂ with_rule one c.required_option.ensures.rule in
    added _ _ c.arg-3.result c.arg-3.ensures two c.required_option-2.ensures.rule c.required_option-2.ensures.here

pub returns-clause-own : goal.returns-clause-own
returns-clause-own c =
    let one = c.in_ok-arg.ensures.globals ∙ ap₂ ◌||◌ c.command.ensures.own c.argument.ensures.here in
    let two = c.in_ok-arg-2.ensures.globals ∙ ap₂ ◌||◌ one c.required_option.ensures.here in
    own _ _ c.arg-3.result c.arg-3.ensures two c.required_option-2.ensures.here
