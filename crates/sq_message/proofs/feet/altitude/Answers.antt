use Rattle.std.proofs.Common.{◌≡◌, ◌/◌, ◌%◌, subst, arith, inr}
use Rattle.std.proofs.lemmas.Int.{ints}
use Rattle.sq_message.proofs.FeetLemmas.{split}
use Rattle.sq_message.specs.Altitudes.{IsField}
use Rattle.sq_message.proofs.feet.altitude.Goals as goal

pub returns-then-field-eq1 : goal.returns-then-field-eq1
returns-then-field-eq1 c =
    let field = c.args.airborne.now.fields.altitude in
    let is : IsField field (field / 32) 1 (field % 16) =
    subst (λ q. IsField field (field / 32) q (field % 16)) c.if-field-eq1.true
    (split field c.args.airborne.now.fields.altitude_in) in
    (omega (arith, c.args.airborne.now.fields.type_code_in), (field / 32, field % 16, is, omega (arith, ints)))

pub returns-else-field-eq1 : goal.returns-else-field-eq1
returns-else-field-eq1 c =
    let field = c.args.airborne.now.fields.altitude in
    let clear : field / 16 % 2 ≡ 0 = omega arith in
    let is : IsField field (field / 32) 0 (field % 16) =
    subst (λ q. IsField field (field / 32) q (field % 16)) clear (split field c.args.airborne.now.fields.altitude_in) in
    (omega arith, inr (c.if-field-eq0.false, (field / 32, field % 16, is)))
