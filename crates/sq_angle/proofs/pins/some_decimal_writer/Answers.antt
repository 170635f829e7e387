use Rattle.sq_angle.proofs.SomeText.{writer}
use Rattle.sq_angle.proofs.pins.some_decimal_writer.Goals as goal

pub returns : goal.returns
returns c = writer
