use Rattle.std.proofs.Common.{rules, arith}
use Rattle.std.proofs.lemmas.Str.{IsUtf8-had, IsUtf8-append, IsUtf8-from_ascii, IsAscii-take}
use Rattle.sq_digits.proofs.Copies.{front_of}
use Rattle.sq_digits.proofs.buffer.TextBuffer.push_front.Goals as goal

pub invariant_of-self : goal.invariant_of-self
invariant_of-self g c =
    let front = front_of c.copy_in.new.cells c.self.inside.cells c.args.characters.now c.self.inside.len c.args.count
    (omega (arith, c.self.invariant.0, c.self.invariant.1)) c.requires.within c.copy_in.ensures.front in
    let few = IsUtf8-from_ascii _ (IsAscii-take c.args.characters.now c.args.count c.requires.ascii) in (
      search rules,
      c.copy_in.ensures.len,
      ∣ rw front (IsUtf8-append _ _ (IsUtf8-had _ c.self.invariant.2) few) ∣₁,
    )

pub returns-clause-bytes : goal.returns-clause-bytes
returns-clause-bytes g c =
    let front = front_of c.copy_in.new.cells c.self.inside.cells c.args.characters.now c.self.inside.len c.args.count
    (omega (arith, c.self.invariant.0, c.self.invariant.1)) c.requires.within c.copy_in.ensures.front in
    search rules
