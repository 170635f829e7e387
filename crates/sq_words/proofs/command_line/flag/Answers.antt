use Rattle.std.proofs.Common.{◌∙◌, Some, ap}
use Rattle.clap.specs.Words.{rule_of, Rule}
use Rattle.clap.specs.declared.builder.action.ArgAction.TheVariants.{SetTrue}
use Rattle.clap.specs.declared.builder.arg.Arg.{Arg}
use Rattle.sq_words.proofs.command_line.flag.Goals as goal

-- help is not part of a rule
pub returns-clause-rule : goal.returns-clause-rule
returns-clause-rule c =
    let named : Rule → Rule = λ r. record r { long = Some c.args.name.now; action = Some SetTrue } in
    let acting : Arg → Rule = λ a. record (rule_of a) { action = Some SetTrue } in
    ap rule_of c.help.ensures ∙ ap rule_of c.action.ensures ∙ ap acting c.long.ensures ∙ ap named c.new.ensures.rule

pub returns-clause-here : goal.returns-clause-here
returns-clause-here c =
    ap (λ (a : Arg). a.global) c.help.ensures ∙ ap (λ (a : Arg). a.global) c.action.ensures
    ∙ ap (λ (a : Arg). a.global) c.long.ensures ∙ c.new.ensures.optional.1
