use Rattle.std.proofs.Common.{◌∙◌, ap, option_map, rules, subst, sym}
use Rattle.squitter_c.specs.LogCalls.{AsAnswers, IsFinishedBy, IsLogFinished}
use Rattle.squitter_c.specs.Seal.{listener_of}
use Rattle.squitter_c.proofs.log_take.squitter_log_finish.Goals as goal

pub returns-in-Some : goal.returns-in-Some
returns-in-Some c =
    let told = c.finish_by-fault in
    subst (λ held. IsLogFinished held (listener_of c.put.new.self.seal.held) c.args.out.now told.new.out
    c.args.done.now told.new.done told.result)
    (sym (ap (option_map (λ b. b.value)) c.in-Some.is) ∙ c.take.ensures.taken) (
      told.new.listener,
      search rules,
      subst (λ old. IsFinishedBy AsAnswers 1 old told.new.listener c.args.out.now told.new.out c.args.done.now
          told.new.done told.result) c.deref_mut.ensures.value told.ensures,
    )
