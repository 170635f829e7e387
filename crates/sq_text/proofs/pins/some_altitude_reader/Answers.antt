use Rattle.sq_text.proofs.Altitudes.{altitudes}
use Rattle.sq_text.proofs.pins.some_altitude_reader.Goals as goal

pub returns : goal.returns
returns c = altitudes
