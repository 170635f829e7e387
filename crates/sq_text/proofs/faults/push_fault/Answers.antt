use Rattle.std.proofs.Common.{append_assoc, refl}
use Rattle.sq_text.proofs.faults.push_fault.Goals as goal

pub returns-in-Parity-clause-bytes : goal.returns-in-Parity-clause-bytes
returns-in-Parity-clause-bytes g c =
    rw (c.push_six_places.ensures.bytes, c.push_str.ensures.bytes, c.label.ensures.value, c.in-Parity.is)
    (simp append_assoc refl)
