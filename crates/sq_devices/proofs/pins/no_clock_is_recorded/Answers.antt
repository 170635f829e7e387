use Rattle.sq_devices.proofs.Told.{all_zero, told_zero}
use Rattle.sq_devices.proofs.pins.no_clock_is_recorded.Goals as goal

pub returns-clause-told : goal.returns-clause-told
returns-clause-told c old new moments = (all_zero old new moments, told_zero old new moments)
