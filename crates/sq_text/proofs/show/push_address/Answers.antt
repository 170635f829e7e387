use Rattle.std.proofs.Common.{append_assoc, refl}
use Rattle.sq_text.specs.Show.{line}
use Rattle.sq_text.proofs.show.push_address.Goals as goal

pub returns-clause-bytes : goal.returns-clause-bytes
unfolding line
returns-clause-bytes c =
    rw (c.push_str-2.ensures.bytes, c.push_hexadecimal.ensures.bytes, c.push_str.ensures.bytes, c.from.ensures)
    (simp append_assoc refl)
