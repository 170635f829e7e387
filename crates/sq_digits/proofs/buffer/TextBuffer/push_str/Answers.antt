use Rattle.std.proofs.Common.{rules}
use Rattle.std.proofs.lemmas.Str.{IsUtf8-had, IsUtf8-append}
use Rattle.sq_digits.proofs.buffer.TextBuffer.push_str.Goals as goal

pub invariant_of-self : goal.invariant_of-self
invariant_of-self g c =
    let front = rw c.as_bytes.ensures.value at c.copy_in.ensures.front in (
      search rules,
      c.copy_in.ensures.len,
      ∣ rw front (IsUtf8-append _ _ (IsUtf8-had _ c.self.invariant.2) c.utf8.text) ∣₁,
    )
