use Rattle.std.proofs.Common.{◌≡◌, ℕ, ◌+◌, ◌*◌, ◌/◌, ◌%◌, ◌^◌, Option, Some, None, IsSome, ap, sym, subst, arith, pos}
use Rattle.std.proofs.Common.{w32, ◌+ℤ◌}
use Rattle.std.proofs.lemmas.Int.{ints, to_z-of_z}
use Rattle.sq_message.specs.Altitudes.{HasField, IsFieldOfFeet}
use Rattle.sq_message.proofs.FeetLemmas.{joined, one_field, has_field}
use Rattle.sq_message.proofs.feet.field_of_feet.Goals as goal
use Rattle.sq_message.proofs.feet.field_of_feet.Goals.{In_ok-steps}

not_some : (o : Option ℕ) → o ≡ None → IsSome o → ⊥
not_some o none some = absurd (cc (sym none, some))

-- the field that the code returns means these feet
means : (c : In_ok-steps) → IsFieldOfFeet (c.in_ok-steps.steps / 16 * 32 + 16 + c.in_ok-steps.steps % 16) c.args.feet
means c =
    let steps = c.in_ok-steps.steps in
    let same : c.args.feet +ℤ pos 1000 ≡ pos (25 * (steps / 16 * 2 ^ 4 + steps % 16)) =
    omega (arith, ints, c.in_ok-steps.ensures.steps) in
    (steps / 16, steps % 16, joined steps c.in_ok-steps.ensures.small, same)

pub returns-clause-field : goal.returns-clause-field
returns-clause-field c = means c

pub returns-clause-exact : goal.returns-clause-exact
returns-clause-exact c field is = ap Some (one_field _ field c.args.feet (means c) is)

pub returns-in_err-steps-clause-exact : goal.returns-in_err-steps-clause-exact
returns-in_err-steps-clause-exact c field is =
    let has = subst HasField (sym (to_z-of_z w32 c.args.feet c.ranges.feet)) (has_field field c.args.feet is) in
    let some : IsSome c.steps_of.result = c.steps_of.ensures.variant.1 has in
    absurd (not_some c.steps_of.result c.in_err-steps.was some)
