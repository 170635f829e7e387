use Rattle.sq_text.proofs.Altitudes.{one_reading}
use Rattle.sq_text.proofs.pins.one_altitude_reading.Goals as goal

pub returns : goal.returns
returns c = one_reading
