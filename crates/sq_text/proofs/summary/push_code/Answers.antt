use Rattle.std.proofs.Common.{append_assoc, refl}
use Rattle.sq_text.specs.Summary.{code_words}
use Rattle.sq_text.proofs.summary.push_code.Goals as goal

pub returns-clause-bytes : goal.returns-clause-bytes
unfolding code_words
returns-clause-bytes g c =
    rw (
      c.push_short-2.ensures.bytes,
      c.push.ensures.bytes,
      c.push_short.ensures.bytes,
      c.from.ensures,
      c.from-2.ensures,
      c.lat.ensures.value,
      c.lon.ensures.value,
    ) (simp append_assoc refl)
