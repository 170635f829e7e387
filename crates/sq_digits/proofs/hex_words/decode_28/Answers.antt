use Rattle.std.proofs.Common.{ℕ, List, [], arith}
use Rattle.sq_digits.specs.HexDigits.{AreSpelled}
use Rattle.sq_digits.proofs.Spelled.{are_bytes, eight_spelled, from_picked, hex_28, picked}
use Rattle.sq_digits.proofs.hex_words.decode_28.Goals as goal

pub returns : goal.returns
returns c =
    let digits : List ℕ = c.args.digits.now in
    let first : List ℕ = c.bytes_of-first.result in
    let last : List ℕ = c.bytes_of-last.result in
    let f : AreSpelled digits 0 first = eight_spelled digits _ first 0 c.values_at-front.ensures.value
    (c.are_values.ensures.front (search c.if-not-are_values.false)) c.bytes_of-first.ensures in
    let l : AreSpelled digits 12 last = eight_spelled digits _ last 12 c.values_at-back.ensures.value
    (c.are_values.ensures.back (search c.if-not-are_values.false)) c.bytes_of-last.ensures in (
      hex_28 digits first last c.requires f l,
      are_bytes digits _ (omega (arith, c.requires))
          (from_picked digits first (picked last 2 6) 0 0 8 0 f (omega arith) (omega arith)
          (from_picked digits last [] 12 2 6 8 l (omega arith) (omega arith) tt)),
    )
