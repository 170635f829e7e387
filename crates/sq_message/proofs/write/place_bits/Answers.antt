use Rattle.std.proofs.Common.{◌∙◌, arith}
use Rattle.sq_message.proofs.Written.{three_parts}
use Rattle.sq_message.proofs.write.place_bits.Goals as goal

pub returns-clause-spelled : goal.returns-clause-spelled
returns-clause-spelled c f is =
    let small_lat = c.lat.ensures.small in
    let small_lon = c.lon.ensures.small in
    let parts = three_parts f 54 1 17 17 c.from.result c.from-2.result c.from-3.result
    (omega (arith, c.from-2.ensures, small_lat)) (omega (arith, c.from-3.ensures, small_lon))
    (is ∙ omega (arith, c.from-2.ensures, small_lat, c.from.ensures)) in
    record {
      parity_bit = parts.0 ∙ c.from.ensures ∙ c.index.ensures;
      lat = parts.1 ∙ c.from-2.ensures ∙ c.lat.ensures.value;
      lon = parts.2 ∙ c.from-3.ensures ∙ c.lon.ensures.value;
    }
