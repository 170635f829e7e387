use Rattle.sq_bits.proofs.Kept.{bits_kept, fields_kept}
use Rattle.sq_bits.proofs.pins.fields_kept_exactly.Goals as goal

pub returns : goal.returns
returns c bit old new = (bits_kept bit old new, fields_kept bit old new)
