use Rattle.std.proofs.Common.{◌≡◌, ◌+◌, ◌*◌, ◌/◌, ◌%◌, ◌^◌, ℕ, bit_or, ap, arith, ◌∙◌}
use Rattle.std.proofs.lemmas.Nat.{or_shifted}
use Rattle.sq_bits.proofs.Digits.{five_words}
use Rattle.sq_bits.proofs.frame.Frame.number.Goals as goal

pub returns-clause-value : goal.returns-clause-value
returns-clause-value c =
    let f : ℕ = c.front.result in
    let b : ℕ = c.back.result in
    let kept : c.from.result * 2 ^ 48 % 2 ^ 128 ≡ c.from.result * 2 ^ 48 =
    omega (arith, c.from.ensures, c.front.type_inv) in
    let split : f * 2 ^ 48 + b ≡ (((f / 2 ^ 48 * 2 ^ 24 + f / 2 ^ 24 % 2 ^ 24) * 2 ^ 24 + f % 2 ^ 24) * 2 ^ 24
    + b / 2 ^ 24) * 2 ^ 24 + b % 2 ^ 24 = omega arith in
    ap (λ n. bit_or n c.from-2.result) kept
    ∙ or_shifted c.from.result 48 c.from-2.result (omega (arith, c.from-2.ensures, c.back.ensures.small))
    ∙ omega (arith, c.from.ensures, c.from-2.ensures, split)
    ∙ five_words c.args.self.now.0 (f / 2 ^ 48) (f / 2 ^ 24 % 2 ^ 24) (f % 2 ^ 24) (b / 2 ^ 24) (b % 2 ^ 24)
    c.each_frame.ensures.0 c.front.ensures.first c.front.ensures.second c.front.ensures.third c.back.ensures.fourth
    c.back.ensures.fifth
