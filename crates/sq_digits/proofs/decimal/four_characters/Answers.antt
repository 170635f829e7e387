use Rattle.std.proofs.Common.{◌≡◌, ◌+◌, ◌-◌, ◌*◌, ℕ, drop, ◌∙◌, arith}
use Rattle.std.proofs.lemmas.List.{take-take}
use Rattle.std.proofs.lemmas.Str.{IsAscii-drop, IsAscii-take}
use Rattle.sq_digits.specs.declared.decimal.TheConstants.{THREES}
use Rattle.sq_digits.proofs.Threes.{three_are, IsAscii-threes}
use Rattle.sq_digits.proofs.decimal.four_characters.Goals as goal

pub returns-clause-ascii : goal.returns-clause-ascii
returns-clause-ascii c =
    let at : ℕ = 4 * c.args.number in
    rw c.as_bytes.ensures.value
    (IsAscii-take (drop at THREES.now) (at + 4 - at) (IsAscii-drop THREES.now at IsAscii-threes))

pub returns-clause-digits : goal.returns-clause-digits
returns-clause-digits c =
    let at : ℕ = 4 * c.args.number in
    let width : at + 4 - at ≡ 4 = omega arith in
    rw (c.as_bytes.ensures.value, width)
    (take-take 3 4 (drop at THREES.now) (omega arith) ∙ three_are c.args.number c.requires)
