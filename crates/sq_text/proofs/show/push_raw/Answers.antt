use Rattle.std.proofs.Common.{append_assoc, refl}
use Rattle.sq_text.specs.Show.{line}
use Rattle.sq_text.proofs.show.push_raw.Goals as goal

pub returns : goal.returns
unfolding line
returns c = rw (c.push_str-2.ensures.bytes, c.push_hexadecimal.ensures.bytes, c.push_str.ensures.bytes)
    (simp append_assoc refl)
