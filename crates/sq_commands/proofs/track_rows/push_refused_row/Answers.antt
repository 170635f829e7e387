use Rattle.std.proofs.Common.{append-nil, append_assoc, refl}
use Rattle.sq_commands.proofs.track_rows.push_refused_row.Goals as goal

pub returns : goal.returns
returns g c writers =
    rw (
      ← c.form-form.ensures,
      c.push_end.ensures.bytes,
      c.push_blank-4.ensures.bytes,
      c.push_no_coordinates.ensures.bytes,
      c.push_blank-3.ensures.bytes,
      c.push_blank-2.ensures.bytes,
      c.push_fault_word.ensures.bytes,
      c.push_blank.ensures.bytes,
      c.push_line.ensures.bytes,
      c.requires,
    ) (simp (append_assoc, append-nil) refl)
