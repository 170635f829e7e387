use Rattle.std.proofs.Common.{◌≡◌, ◌+◌, ◌-◌, ◌*◌, ℕ, take, drop, ap, ap₂, ◌∙◌, arith}
use Rattle.std.proofs.lemmas.Str.{IsAscii-drop, IsAscii-take}
use Rattle.std.proofs.lemmas.List.{take-take}
use Rattle.sq_digits.specs.declared.decimal.TheConstants.{THREES}
use Rattle.sq_digits.proofs.Threes.{leading_is, zeros_of, IsAscii-threes}
use Rattle.sq_digits.proofs.decimal.leading_digits.Goals as goal

pub returns-clause-ascii : goal.returns-clause-ascii
returns-clause-ascii c =
    let at : ℕ = 4 * c.args.number + (c.from.result + c.from-2.result) in
    rw c.as_bytes.ensures.value
    (IsAscii-take (drop at THREES.now) (at + 4 - at) (IsAscii-drop THREES.now at IsAscii-threes))

pub returns-clause-digits : goal.returns-clause-digits
returns-clause-digits c =
    let zeros : ℕ = c.from.result + c.from-2.result in
    let same : zeros ≡ zeros_of c.args.number = ap₂ (λ m n. m + n) c.from.ensures c.from-2.ensures in
    let at : ℕ = 4 * c.args.number + zeros in
    let width : at + 4 - at ≡ 4 = omega arith in
    rw (c.as_bytes.ensures.value, width) (
    take-take (3 - zeros) 4 (drop at THREES.now) (omega arith)
    ∙ ap (λ z. take (3 - z) (drop (4 * c.args.number + z) THREES.now)) same ∙ leading_is c.args.number c.requires
    )
