use Rattle.std.proofs.Common.{◌≡◌, ◌*◌, ◌%◌, ◌/◌, ◌-◌, ◌^◌, ◌∙◌, ap, arith}
use Rattle.std.proofs.lemmas.Nat.{one_shl}
use Rattle.sq_bits.proofs.Spelled.{quotient_is}
use Rattle.sq_bits.proofs.Quotient.{quotient_of}
use Rattle.sq_bits.proofs.frame.Frame.field.Goals as goal

pub returns-clause-value : goal.returns-clause-value
unfolding quotient_of
returns-clause-value c =
    let one : 1 * 2 ^ c.args.count % 2 ^ 128 ≡ 2 ^ c.args.count = one_shl c.args.count 128 (omega arith) in
    ap (λ x. c.number.result / 2 ^ (113 - c.args.first - c.args.count) % x) one
    ∙ ap (λ x. x / 2 ^ (113 - c.args.first - c.args.count) % 2 ^ c.args.count) c.number.ensures.value
    ∙ quotient_is c.args.self.now c.args.first c.args.count c.number.ensures.frame c.requires.begins c.requires.within
