use Rattle.std.proofs.Common.{◌≡◌, ◌+◌, ◌-◌, ◌*◌, ℕ, drop, arith}
use Rattle.std.proofs.lemmas.Str.{IsAscii-drop, IsAscii-take}
use Rattle.sq_digits.specs.declared.decimal.TheConstants.{THREES}
use Rattle.sq_digits.proofs.Threes.{three_are, IsAscii-threes}
use Rattle.sq_digits.proofs.decimal.three_digits.Goals as goal

pub returns-clause-ascii : goal.returns-clause-ascii
returns-clause-ascii c =
    let at : ℕ = 4 * c.args.number in
    rw c.as_bytes.ensures.value
    (IsAscii-take (drop at THREES.now) (at + 3 - at) (IsAscii-drop THREES.now at IsAscii-threes))

pub returns-clause-digits : goal.returns-clause-digits
returns-clause-digits c =
    let width : 4 * c.args.number + 3 - 4 * c.args.number ≡ 3 = omega arith in
    rw (c.as_bytes.ensures.value, width) (three_are c.args.number c.requires)
