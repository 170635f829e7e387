use Rattle.std.proofs.Common.{◌<◌, ◌^◌, ◌∙◌, arith}
use Rattle.sq_message.proofs.Written.{bit_is, five_parts}
use Rattle.sq_message.proofs.kind.AirFieldsKind.bits.Goals as goal

pub returns-clause-spelled : goal.returns-clause-spelled
returns-clause-spelled c f is =
    let fields = c.args.self.now in
    let second : c.from-2.result < 2 ^ 2 = omega (arith, c.from-2.ensures, fields.status_in) in
    let third : c.from-3.result < 2 ^ 1 = omega (arith, c.from-3.ensures, (bit_is fields.flag).1) in
    let fourth : c.from-4.result < 2 ^ 12 = omega (arith, c.from-4.ensures, fields.altitude_in) in
    let fifth : c.from-5.result < 2 ^ 1 = omega (arith, c.from-5.ensures, (bit_is fields.time).1) in
    let parts = five_parts f 33 5 2 1 12 1 c.from.result c.from-2.result c.from-3.result c.from-4.result c.from-5.result
    second third fourth fifth (is ∙ omega (arith, c.from.type_inv, second, third, fourth)) in
    record {
      type_code = parts.0 ∙ c.from.ensures;
      status = parts.1 ∙ c.from-2.ensures;
      flag = parts.2 ∙ c.from-3.ensures ∙ (bit_is fields.flag).0;
      altitude = parts.3 ∙ c.from-4.ensures;
      time = parts.4 ∙ c.from-5.ensures ∙ (bit_is fields.time).0;
    }
