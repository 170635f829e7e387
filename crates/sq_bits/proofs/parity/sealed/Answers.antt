use Rattle.std.proofs.Common.{◌∙◌, sym, ap, arith, bit_xor}
use Rattle.std.proofs.lemmas.Nat.{xor_lt}
use Rattle.sq_bits.proofs.Spelled.{quotient_is}
use Rattle.sq_bits.proofs.Quotient.{quotient_of, field_at}
use Rattle.sq_bits.proofs.Remainders.{upper_kept, upper_field}
use Rattle.sq_bits.proofs.parity.sealed.Goals as goal

pub from_number-requires : goal.from_number-requires
from_number-requires c = xor_lt 112 c.number_by_words-number.result c.from.result c.number_by_words-number.ensures.small
    (omega (arith, c.remainder_of.ensures.0))

pub returns-clause-kept : goal.returns-clause-kept
unfolding quotient_of
returns-clause-kept c start len begins within =
    let kept = upper_kept c.number_by_words-number.result c.from.result (omega (arith, c.remainder_of.ensures.0)) in
    sym (quotient_is c.from_number.result start len c.from_number.ensures.frame begins (omega arith))
    ∙ ap (λ x. field_at x start len) c.from_number.ensures.value
    ∙ upper_field (bit_xor c.number_by_words-number.result c.from.result) c.number_by_words-number.result
    start len kept begins within
    ∙ ap (λ x. field_at x start len) c.number_by_words-number.ensures.value
    ∙ quotient_is c.args.frame.now start len c.number_by_words-number.ensures.frame begins (omega arith)
