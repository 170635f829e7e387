use Rattle.std.proofs.Common.{append-nil, append_assoc, refl}
use Rattle.sq_commands.proofs.check_rows.push_no_ground_fields.Goals as goal

pub returns-clause-bytes : goal.returns-clause-bytes
returns-clause-bytes c =
    rw (c.push_blank-3.ensures.bytes, c.push_blank-2.ensures.bytes, c.push_blank.ensures.bytes)
    (simp (append_assoc, append-nil) refl)
