use Rattle.std.proofs.Common.{◌+◌, ◌*◌, ◌<◌, ap, sym, ◌∙◌, arith, length, take}
use Rattle.std.specs.Int.Digits.{number_from_digits}
use Rattle.std.proofs.lemmas.Int.Digits.{number_more}
use Rattle.sq_commands.proofs.ArgumentLemmas.{byte_behind}
use Rattle.sq_commands.proofs.arguments.address_of.Goals as goal

pub overflow_mul-address : goal.overflow_mul-address
overflow_mul-address c = let small = byte_behind c.loop-byte.address 0 c.loop-byte.byte-index c.loop-byte.invariant.1
    (omega arith) (omega (arith, c.requires)) in omega (arith, small.1)

pub loop-byte-preserved : goal.loop-byte-preserved
loop-byte-preserved c =
    let byte : c.from.result < 256 = omega arith in
    let within : c.loop-byte.byte-index < length c.args.bytes.now = omega arith in
    let small = byte_behind c.loop-byte.address c.from.result c.loop-byte.byte-index c.loop-byte.invariant.1 byte
    (omega (arith, c.requires)) in (
      ap (λ n. n * 256 + c.from.result) c.loop-byte.invariant.0
          ∙ ap (λ b. number_from_digits 256 (take c.loop-byte.byte-index c.args.bytes.now) * 256 + b) c.from.ensures
          ∙ sym (number_more 256 c.args.bytes.now c.loop-byte.byte-index within),
      small.0,
    )
