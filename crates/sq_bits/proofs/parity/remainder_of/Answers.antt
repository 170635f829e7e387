use Rattle.std.proofs.Common.{◌≡◌, ◌+◌, ◌*◌, ◌/◌, ◌^◌, ℕ, arith, bit_and, subst}
use Rattle.std.proofs.lemmas.Nat.{and_mask}
use Rattle.sq_bits.specs.Parity.{IsRemainder}
use Rattle.sq_bits.proofs.Remainders.{IsRemainder-small}
use Rattle.sq_bits.proofs.parity.remainder_of.Goals as goal

-- The remainder of a number is that of its front followed by its last word.
joined : (n front remainder : ℕ) → front ≡ n / 2 ^ 24 → IsRemainder (front * 2 ^ 24 + bit_and n 16777215) remainder
    → IsRemainder n remainder
joined n front remainder above is =
    let whole : front * 2 ^ 24 + bit_and n 16777215 ≡ n = omega (arith, above, and_mask n 24) in
    subst (λ k. IsRemainder k remainder) whole is

pub append_word-third-requires-clause-small : goal.append_word-third-requires-clause-small
append_word-third-requires-clause-small c =
    let n : ℕ = c.args.number in
    (c.append_word-second.ensures (n / 2 ^ 96) (IsRemainder-small (n / 2 ^ 96) (omega (arith, c.requires)))).0

pub append_word-fourth-requires-clause-small : goal.append_word-fourth-requires-clause-small
append_word-fourth-requires-clause-small c =
    let n : ℕ = c.args.number in
    let second = joined (n / 2 ^ 72) (n / 2 ^ 96) c.append_word-second.result (omega arith)
    (c.append_word-second.ensures (n / 2 ^ 96) (IsRemainder-small (n / 2 ^ 96) (omega (arith, c.requires)))) in
    (c.append_word-third.ensures (n / 2 ^ 72) second).0

pub append_word-requires-clause-small : goal.append_word-requires-clause-small
append_word-requires-clause-small c =
    let n : ℕ = c.args.number in
    let second = joined (n / 2 ^ 72) (n / 2 ^ 96) c.append_word-second.result (omega arith)
    (c.append_word-second.ensures (n / 2 ^ 96) (IsRemainder-small (n / 2 ^ 96) (omega (arith, c.requires)))) in
    let third = joined (n / 2 ^ 48) (n / 2 ^ 72) c.append_word-third.result (omega arith)
    (c.append_word-third.ensures (n / 2 ^ 72) second) in
    (c.append_word-fourth.ensures (n / 2 ^ 48) third).0

pub returns : goal.returns
returns c =
    let n : ℕ = c.args.number in
    let second = joined (n / 2 ^ 72) (n / 2 ^ 96) c.append_word-second.result (omega arith)
    (c.append_word-second.ensures (n / 2 ^ 96) (IsRemainder-small (n / 2 ^ 96) (omega (arith, c.requires)))) in
    let third = joined (n / 2 ^ 48) (n / 2 ^ 72) c.append_word-third.result (omega arith)
    (c.append_word-third.ensures (n / 2 ^ 72) second) in
    let fourth = joined (n / 2 ^ 24) (n / 2 ^ 48) c.append_word-fourth.result (omega arith)
    (c.append_word-fourth.ensures (n / 2 ^ 48) third) in
    joined n (n / 2 ^ 24) c.append_word.result (omega arith) (c.append_word.ensures (n / 2 ^ 24) fourth)
