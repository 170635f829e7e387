use Rattle.std.proofs.Common.{◌++◌, ◌∷◌, [], arith, refl, subst, sym, take}
use Rattle.std.proofs.lemmas.List.{take_more_set}
use Rattle.squitter_c.specs.LogCalls.{AsAnswers}
use Rattle.squitter_c.proofs.LogSteps.{all_with, dropped_further}
use Rattle.squitter_c.proofs.forms.StructsForm.put.Goals as goal

pub returns-clause-put : goal.returns-clause-put
returns-clause-put c told are =
    let out = c.args.out.now in
    let at = c.args.at in
    let plain = c.plain_answer.result in
    subst (AsAnswers (told ++ c.args.answer.now ∷ [])) (sym (take_more_set out at plain (omega (arith, c.requires))))
    (all_with told (take at out) c.args.answer.now plain are c.plain_answer.ensures)

pub returns-clause-rest : goal.returns-clause-rest
returns-clause-rest c =
    (omega arith, dropped_further c.args.out.now c.args.out.now c.args.at c.plain_answer.result refl)
