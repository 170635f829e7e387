use Rattle.std.proofs.Common.{ℕ, List, [], ◌++◌, arith}
use Rattle.sq_digits.specs.HexDigits.{AreSpelled}
use Rattle.sq_digits.proofs.Spelled.{are_bytes, eight_spelled, from_picked, hex_40, picked}
use Rattle.sq_digits.proofs.hex_words.decode_40.Goals as goal

pub returns : goal.returns
returns c =
    let digits : List ℕ = c.args.digits.now in
    let first : List ℕ = c.bytes_of-first.result in
    let middle : List ℕ = c.bytes_of-middle.result in
    let last : List ℕ = c.bytes_of-last.result in
    let f : AreSpelled digits 0 first = eight_spelled digits _ first 0 c.values_at-front.ensures.value
    (search c.are_values.ensures.front) c.bytes_of-first.ensures in
    let m : AreSpelled digits 16 middle = eight_spelled digits _ middle 16 c.values_at-inner.ensures.value
    (search c.are_values.ensures.back) c.bytes_of-middle.ensures in
    let l : AreSpelled digits 24 last = eight_spelled digits _ last 24 c.values_at-back.ensures.value
    (search c.are_values-2.ensures.back) c.bytes_of-last.ensures in (
      hex_40 digits first middle last c.requires f m l,
      are_bytes digits _ (omega (arith, c.requires))
          (from_picked digits first (picked middle 0 8 ++ picked last 4 4) 0 0 8 0 f (omega arith) (omega arith)
          (from_picked digits middle (picked last 4 4) 16 0 8 8 m (omega arith) (omega arith)
          (from_picked digits last [] 24 4 4 16 l (omega arith) (omega arith) tt))),
    )
