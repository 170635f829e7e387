use Rattle.sq_angle.proofs.OneReading.{one_reading}
use Rattle.sq_angle.proofs.pins.one_reading.Goals as goal

pub returns : goal.returns
returns c = one_reading
