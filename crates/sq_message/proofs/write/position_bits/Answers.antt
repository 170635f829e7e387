use Rattle.std.proofs.Common.{◌∙◌, arith}
use Rattle.sq_bits.proofs.Spelled.{split_field}
use Rattle.sq_message.proofs.write.position_bits.Goals as goal

pub returns-clause-spelled : goal.returns-clause-spelled
returns-clause-spelled g c f is =
    let parts = split_field f 33 21 35 c.bits.result c.place_bits.result c.place_bits.ensures.small
    (is ∙ omega (arith, c.bits.ensures.small)) in
    record { fields = c.bits.ensures.spelled f parts.0; place = c.place_bits.ensures.spelled f parts.1 }
