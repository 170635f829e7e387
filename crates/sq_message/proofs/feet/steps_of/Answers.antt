use Rattle.std.proofs.Common.{◌≡◌, pos, negsuc, refl, arith, ◌*ℤ◌, ◌≤ℤ◌}
use Rattle.std.proofs.lemmas.Int.{ints, quot-rem}
use Rattle.std.specs.Int.RustNames.{int_div}
use Rattle.sq_message.proofs.feet.steps_of.Goals as goal

pub returns-clause-variant : goal.returns-clause-variant
returns-clause-variant c =
    let least : negsuc 999 ≤ℤ c.args.feet = omega (arith, ints) in
    let most : c.args.feet ≤ℤ pos 50175 = omega (arith, ints) in
    let multiple : c.args.feet ≡ pos 25 *ℤ int_div c.args.feet (pos 25) =
    omega (arith, ints, quot-rem c.args.feet (pos 25)) in
    (λ some. record { least = least; most = most; multiple = (int_div c.args.feet (pos 25), multiple) }, λ has. refl)
