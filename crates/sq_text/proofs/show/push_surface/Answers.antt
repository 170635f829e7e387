use Rattle.std.proofs.Common.{append_assoc, refl}
use Rattle.sq_text.proofs.show.push_surface.Goals as goal

pub returns : goal.returns
returns c =
    rw (
      c.push_place.ensures,
      c.push_flag-2.ensures.bytes,
      c.push_number-3.ensures.bytes,
      c.push_flag.ensures.bytes,
      c.push_number-2.ensures.bytes,
      c.push_line.ensures.bytes,
      c.push_number.ensures.bytes,
      c.from.ensures,
      c.from-2.ensures,
      c.from-3.ensures,
      c.type_code.ensures.value,
      c.movement.ensures.value,
      c.track_status.ensures,
      c.track.ensures.value,
      c.time.ensures,
    ) (simp append_assoc refl)
