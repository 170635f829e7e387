use Rattle.std.proofs.Common.{arith}
use Rattle.std.proofs.lemmas.List.{length-set}
use Rattle.hex.specs.Hex.{upper_digits}
use Rattle.hex.proofs.Pairs.{encode_step, encode_done}
use Rattle.squitter_c.proofs.read.squitter_text_of_frame.Goals as goal

pub loop-place-preserved : goal.loop-place-preserved
loop-place-preserved c = (
  search (arith, length-set, c.loop-place.invariant.0),
  encode_step upper_digits c.args.frame.now c.loop-place.out c.loop-place.place _ _ (omega (arith, c.told-frame))
      (omega arith)
      c.digit_of.ensures c.digit_of-in-loop-place.ensures c.loop-place.invariant.1,
)

pub returns : goal.returns
returns c =
    encode_done _ _ _ c.loop-place.place (omega (arith, c.told-frame))
    (omega (arith, c.told-frame)) c.loop-place.invariant.1
