use Rattle.std.proofs.Common.{◌<◌, rules, arith}
use Rattle.std.proofs.lemmas.List.{take_more_set}
use Rattle.std.proofs.lemmas.Str.{IsUtf8-had, IsUtf8-append, IsUtf8-from_ascii}
use Rattle.sq_digits.proofs.Ascii.{IsAscii-one}
use Rattle.sq_digits.proofs.buffer.TextBuffer.push.Goals as goal

pub invariant_of-self : goal.invariant_of-self
invariant_of-self g c =
    let room : c.self.inside.len < g.row.N = search rules in
    let front = take_more_set c.self.inside.cells c.self.inside.len c.args.character
    (omega (arith, room, c.self.invariant.1)) in
    let one = IsUtf8-from_ascii _ (IsAscii-one c.args.character c.requires.ascii) in (
      search rules,
      search rules,
      ∣ rw front (IsUtf8-append _ _ (IsUtf8-had _ c.self.invariant.2) one) ∣₁,
    )
