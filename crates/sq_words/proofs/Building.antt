-- Commands that are built one argument at a time.
use Rattle.std.proofs.Common.{◌≡◌, ◌∙◌, ◌||◌, false, ap₂, Result, Ok, Err}
use Rattle.std.specs.Result.{IfOk}
use Rattle.clap.specs.Words.{AddsArg, App, Rule, app_of, rule_of, with_rule}
use Rattle.clap.specs.declared.builder.arg.Arg.{Arg}
use Rattle.clap.specs.declared.builder.command.Command.{Command}
use Rattle.clap.specs.declared.builder.Command.TheViews.{out-Command as fields_of}

-- a command with one more argument has one more rule
pub added : {Fault : Type 0} (old : Command) (a : Arg) {app : App} {rule : Rule} (result : Result Command Fault)
    → IfOk result (λ new. AddsArg old a new)
    → app_of old ≡ app → rule_of a ≡ rule → a.global ≡ false → IfOk result (λ new. app_of new ≡ with_rule app rule)
added old a (Ok new) h o r g = h.shape g ∙ ap₂ with_rule o r
added old a (Err fault) h o r g = tt

-- a command without rules for its subcommands still has none after one more argument
pub own : {Fault : Type 0} (old : Command) (a : Arg) (result : Result Command Fault)
    → IfOk result (λ new. AddsArg old a new)
    → (fields_of old).has_globals ≡ false → a.global ≡ false → IfOk result (λ new. (fields_of new).has_globals ≡ false)
own old a (Ok new) h o g = h.globals ∙ ap₂ ◌||◌ o g
own old a (Err fault) h o g = tt
