use Rattle.sq_bits.proofs.Multiples.{IsRemainder-unique}
use Rattle.sq_bits.proofs.pins.one_remainder.Goals as goal

pub returns : goal.returns
returns c = IsRemainder-unique
