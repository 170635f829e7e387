use Rattle.std.proofs.Common.{◌*◌, ◌^◌, subst, sym, get_or, arith}
use Rattle.sq_bits.specs.Parity.{IsRemainder}
use Rattle.sq_bits.specs.declared.table.TheConstants.{REMAINDERS_32}
use Rattle.sq_bits.proofs.TableLemmas.{IsRemainder-entry_32}
use Rattle.sq_bits.proofs.table.remainder_of_byte_32.Goals as goal

pub returns : goal.returns
returns c = subst (λ i. IsRemainder (c.args.byte * 2 ^ 32) (get_or REMAINDERS_32 i 0)) (sym c.from.ensures)
    (IsRemainder-entry_32 c.args.byte (omega arith))
