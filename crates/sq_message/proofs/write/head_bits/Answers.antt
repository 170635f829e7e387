use Rattle.std.proofs.Common.{◌≡◌, ◌+◌, ◌*◌, ◌%◌, ◌^◌, ◌∙◌, arith}
use Rattle.sq_bits.specs.declared.frame.Frame.{Frame}
use Rattle.sq_bits.specs.Frames.{field_of}
use Rattle.sq_message.proofs.Written.{three_parts}
use Rattle.sq_message.proofs.write.head_bits.Goals as goal

parts : (c : goal.After-from) (f : Frame)
    → field_of f 1 32 ≡ 17 * 2 ^ 27 + c.from.result * 2 ^ 24 % 2 ^ 32 + c.args.squitter.now.address
    → (field_of f 1 5 ≡ 17) × (field_of f 6 3 ≡ c.from.result) × (field_of f 9 24 ≡ c.args.squitter.now.address)
parts c f is =
    let small = c.args.squitter.now.ca_in in
    three_parts f 1 5 3 24 17 c.from.result c.args.squitter.now.address (omega (arith, c.from.ensures, small))
    c.args.squitter.now.address_in (is ∙ omega (arith, c.from.ensures, small))

pub returns-clause-format : goal.returns-clause-format
returns-clause-format c f is = (parts c f is).0

pub returns-clause-ca : goal.returns-clause-ca
returns-clause-ca c f is = (parts c f is).1 ∙ c.from.ensures

pub returns-clause-address : goal.returns-clause-address
returns-clause-address c f is = (parts c f is).2
