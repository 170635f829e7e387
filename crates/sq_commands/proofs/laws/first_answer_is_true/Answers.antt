use Rattle.std.proofs.Common.{◌∷◌, [], arith, subst}
use Rattle.sq_commands.specs.SlowAnswers.{AreTrueAnswers}
use Rattle.sq_commands.proofs.laws.first_answer_is_true.Goals as goal

pub step-requires : goal.step-requires
step-requires c = omega (arith, c.new.ensures.heard.number)

pub returns-in-Answered : goal.returns-in-Answered
returns-in-Answered c =
    subst (λ job. AreTrueAnswers job.tracker.now (c.in-Answered.answer ∷ [])) c.new.ensures.job
    (c.in-Answered.ensures.promised c.new.result.job [] [] [] c.new.ensures.heard)
