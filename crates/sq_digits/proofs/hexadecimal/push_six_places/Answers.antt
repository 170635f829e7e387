use Rattle.std.proofs.Common.{◌++◌, ap, sym, append_assoc}
use Rattle.sq_digits.proofs.Bytes.{six_places}
use Rattle.sq_digits.proofs.hexadecimal.push_six_places.Goals as goal

pub returns-clause-bytes : goal.returns-clause-bytes
returns-clause-bytes g c =
    rw (c.push_byte-3.ensures.bytes, c.push_byte-2.ensures.bytes, c.push_byte.ensures.bytes, append_assoc, append_assoc)
    (ap (λ t. c.args.text.now.bytes ++ t) (sym (six_places c.args.number)))
