use Rattle.std.proofs.Common.{◌*◌, ◌^◌, subst, sym, get_or, arith}
use Rattle.sq_bits.specs.Parity.{IsRemainder}
use Rattle.sq_bits.specs.declared.table.TheConstants.{REMAINDERS_40}
use Rattle.sq_bits.proofs.TableLemmas.{IsRemainder-entry_40}
use Rattle.sq_bits.proofs.table.remainder_of_byte_40.Goals as goal

pub returns : goal.returns
returns c = subst (λ i. IsRemainder (c.args.byte * 2 ^ 40) (get_or REMAINDERS_40 i 0)) (sym c.from.ensures)
    (IsRemainder-entry_40 c.args.byte (omega arith))
