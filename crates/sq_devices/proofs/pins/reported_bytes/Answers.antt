use Rattle.sq_devices.proofs.Puts.{is_front, wrote_front}
use Rattle.sq_devices.proofs.pins.reported_bytes.Goals as goal

pub returns-clause-front : goal.returns-clause-front
returns-clause-front c part text = is_front part text

pub returns-clause-wrote : goal.returns-clause-wrote
returns-clause-wrote c old new text = wrote_front old new text
