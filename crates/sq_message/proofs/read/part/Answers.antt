use Rattle.std.proofs.Common.{◌≡◌, ℕ, ◌+◌, ◌-◌, ◌*◌, ◌/◌, ◌%◌, ◌^◌, ◌≤◌, ◌∙◌, ap, sym, arith}
use Rattle.std.proofs.lemmas.Nat.{one_shl, shr-shr, field_of as field_as_mod}
use Rattle.sq_bits.specs.Frames.{frame_number}
use Rattle.sq_bits.proofs.Spelled.{quotient_is}
use Rattle.sq_bits.proofs.Quotient.{quotient_of, field_at}
use Rattle.sq_bits.proofs.Fields.{mod-mod_pow}
use Rattle.sq_message.proofs.read.part.Goals as goal

-- a field of a field
inner : (n first count : ℕ) → 33 ≤ first → first + count ≤ 89
    → field_at n 33 56 / 2 ^ (89 - first - count) % 2 ^ count ≡ field_at n first count
inner n first count begins within =
    let b : ℕ = 89 - first - count in
    let j : ℕ = 56 - (b + count) in
    let whole : 56 ≡ (j + count) + b = omega arith in
    let far : 24 + b ≡ 113 - first - count = omega arith in
    ap (λ k. n / 2 ^ 24 % 2 ^ k / 2 ^ b % 2 ^ count) whole
    ∙ ap (λ x. x % 2 ^ count) (field_as_mod (n / 2 ^ 24) (j + count) b)
    ∙ mod-mod_pow (n / 2 ^ 24 / 2 ^ b) j count ∙ ap (λ x. x % 2 ^ count) (shr-shr n 24 b ∙ ap (λ k. n / 2 ^ k) far)

pub returns-clause-value : goal.returns-clause-value
unfolding quotient_of
returns-clause-value c =
    let f = c.args.frame.now in
    let n : ℕ = frame_number f in
    let one : 1 * 2 ^ c.args.count % 2 ^ 64 ≡ 2 ^ c.args.count = one_shl c.args.count 64 (omega arith) in
    ap (λ x. c.args.me / 2 ^ (89 - c.args.first - c.args.count) % x) one
    ∙ ap (λ x. x / 2 ^ (89 - c.args.first - c.args.count) % 2 ^ c.args.count)
    (c.requires.me ∙ sym (quotient_is f 33 56 c.each_frame.ensures (omega arith) (omega arith)))
    ∙ inner n c.args.first c.args.count c.requires.begins c.requires.within
    ∙ quotient_is f c.args.first c.args.count c.each_frame.ensures (omega arith) (omega arith)
