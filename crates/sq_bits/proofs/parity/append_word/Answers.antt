use Rattle.std.proofs.Common.{◌*◌, ◌/◌, ◌^◌, subst}
use Rattle.std.proofs.lemmas.Nat.{and_mask}
use Rattle.sq_bits.specs.Parity.{IsRemainder}
use Rattle.sq_bits.proofs.Remainders.{IsRemainder-word}
use Rattle.sq_bits.proofs.parity.append_word.Goals as goal

pub returns : goal.returns
returns c n is =
    let r = c.args.remainder in
    let second = subst (λ x. IsRemainder (x * 2 ^ 32) c.remainder_of_byte_32-middle.result)
    (and_mask (r / 2 ^ 8) 8) c.remainder_of_byte_32-middle.ensures in
    let third = subst (λ x. IsRemainder (x * 2 ^ 24) c.remainder_of_byte-low.result)
    (and_mask r 8) c.remainder_of_byte-low.ensures in
    IsRemainder-word n r c.args.word c.remainder_of_byte_40-high.result c.remainder_of_byte_32-middle.result
    c.remainder_of_byte-low.result
    c.requires.word is c.remainder_of_byte_40-high.ensures second third
