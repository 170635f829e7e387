use Rattle.std.proofs.Common.{append_assoc, refl}
use Rattle.sq_text.proofs.place_faults.push_place_fault.Goals as goal

pub returns-in-ZoneCounts-clause-bytes : goal.returns-in-ZoneCounts-clause-bytes
returns-in-ZoneCounts-clause-bytes g c =
    rw (
      c.push_count-in-ZoneCounts.ensures.bytes,
      c.push_str-in-ZoneCounts.ensures.bytes,
      c.push_count.ensures.bytes,
      c.push_str.ensures.bytes,
      c.label.ensures.value,
      c.in-ZoneCounts.is,
    ) (simp append_assoc refl)
