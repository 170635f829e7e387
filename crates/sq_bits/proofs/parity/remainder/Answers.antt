use Rattle.std.proofs.Common.{subst}
use Rattle.sq_bits.specs.Parity.{IsRemainder}
use Rattle.sq_bits.proofs.parity.remainder.Goals as goal

pub returns : goal.returns
returns c = subst (λ n. IsRemainder n c.remainder_of.result) c.number.ensures.value c.remainder_of.ensures
