use Rattle.sq_commands.proofs.ArgumentLemmas.{no_feet}
use Rattle.std.specs.Prelude.{FitsSigned, ℤ, IsSome, ◌↔◌}
use Rattle.std.proofs.Common.{◌≡◌, of_z, rules, subst, to_z, to_z-of_z, w32}
use Rattle.sq_message.specs.Altitudes.{HasField}
use Rattle.sq_commands.proofs.arguments.read_feet.Goals as goal

pub returns-in-None-field_of_feet-clause-err : goal.returns-in-None-field_of_feet-clause-err
returns-in-None-field_of_feet-clause-err c field is =
    let f : FitsSigned w32 c.in-Some.feet = search rules in
    let back : to_z w32 (of_z w32 c.in-Some.feet) ≡ c.in-Some.feet = to_z-of_z {w = w32} f in
    let variant = subst (λ (z : ℤ). IsSome c.field_of_feet.result ↔ HasField z) back c.field_of_feet.ensures.variant in
    no_feet c.args.word.now c.in-Some.feet c.field_of_feet.result field variant c.in-None-field_of_feet.is
    c.in-Some.ensures is

pub returns-in-None-clause-err : goal.returns-in-None-clause-err
returns-in-None-clause-err c field (feet, text, means) = c.in-None.ensures feet text
