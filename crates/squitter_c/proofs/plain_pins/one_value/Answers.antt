use Rattle.std.proofs.Common.{◌∙◌, sym}
use Rattle.sq_angle.proofs.OneReading.{one_angle}
use Rattle.squitter_c.proofs.OnePlain.{one_of_degrees}
use Rattle.squitter_c.proofs.plain_pins.one_value.Goals as goal

pub returns : goal.returns
returns c = record {
  angle = λ plain a b h k. one_angle a b (h ∙ sym k);
  position = one_of_degrees;
}
