use Rattle.std.proofs.Common.{append-nil, append_assoc, refl}
use Rattle.sq_commands.proofs.check_rows.push_ground_fields.Goals as goal

pub returns-clause-bytes : goal.returns-clause-bytes
returns-clause-bytes c =
    rw (
      c.push_number-2.ensures.bytes,
      c.push_bit.ensures.bytes,
      c.push_number.ensures.bytes,
      c.from.ensures,
      c.from-2.ensures,
      c.movement.ensures.value,
      c.track_status.ensures,
      c.track.ensures.value,
    ) (simp (append_assoc, append-nil) refl)
