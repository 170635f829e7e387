use Rattle.sq_bits.proofs.BitLaws.{AllBelowBase-each}
use Rattle.sq_bits.proofs.frame.are_bytes.Goals as goal

pub returns : goal.returns
returns c = AllBelowBase-each c.args.bytes.now (λ i. (c.type_inv.bytes i).fits)
