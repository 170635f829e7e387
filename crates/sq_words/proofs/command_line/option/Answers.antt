use Rattle.std.proofs.Common.{◌∙◌, Some, ap}
use Rattle.clap.specs.Words.{rule_of, Rule}
use Rattle.clap.specs.declared.builder.arg.Arg.{Arg}
use Rattle.sq_words.proofs.command_line.option.Goals as goal

-- help is not part of a rule
pub returns-clause-rule : goal.returns-clause-rule
returns-clause-rule c =
    let named : Rule → Rule = λ r. record r { long = Some c.args.name.now; value_names = 1 } in
    let valued : Arg → Rule = λ a. record (rule_of a) { value_names = 1 } in
    ap rule_of c.help.ensures ∙ ap rule_of c.value_name.ensures ∙ ap valued c.long.ensures ∙ ap named c.new.ensures.rule

pub returns-clause-here : goal.returns-clause-here
returns-clause-here c =
    ap (λ (a : Arg). a.global) c.help.ensures ∙ ap (λ (a : Arg). a.global) c.value_name.ensures
    ∙ ap (λ (a : Arg). a.global) c.long.ensures ∙ c.new.ensures.optional.1
