use Rattle.std.proofs.Common.{◌∙◌, ap, option_map, rules, subst, sym}
use Rattle.squitter_c.specs.LogCalls.{AsAnswers, IsLogTaken, IsTakenBy}
use Rattle.squitter_c.specs.Seal.{listener_of}
use Rattle.squitter_c.proofs.log_take.squitter_log_take.Goals as goal

pub returns-in-Some : goal.returns-in-Some
returns-in-Some c =
    let told = c.take_by-fault in
    subst (λ held. IsLogTaken held (listener_of c.put.new.self.seal.held) c.args.piece.now c.args.out.now told.new.out
    c.args.done.now told.new.done told.result)
    (sym (ap (option_map (λ b. b.value)) c.in-Some.is) ∙ c.take.ensures.taken) (
      told.new.listener,
      search rules,
      subst (λ old. IsTakenBy AsAnswers 1 old told.new.listener c.args.piece.now c.args.out.now told.new.out
          c.args.done.now told.new.done told.result) c.deref_mut.ensures.value told.ensures,
    )
