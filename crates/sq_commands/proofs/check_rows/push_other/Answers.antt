use Rattle.std.proofs.Common.{append-nil, append_assoc, refl}
use Rattle.sq_commands.proofs.check_rows.push_other.Goals as goal

pub returns-clause-bytes : goal.returns-clause-bytes
returns-clause-bytes g c =
    rw (
      ← c.form-form.ensures,
      c.push_hexadecimal_word.ensures.bytes,
      c.push_no_ground_fields.ensures.bytes,
      c.push_no_air_fields.ensures.bytes,
      c.push_no_code.ensures.bytes,
      c.push_word.ensures.bytes,
      c.push_number.ensures.bytes,
      c.from.ensures,
      c.type_code.ensures.value,
      c.raw.ensures.value,
    ) (simp (append_assoc, append-nil) refl)
