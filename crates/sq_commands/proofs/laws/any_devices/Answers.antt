use Rattle.std.proofs.Common.{refl}
use Rattle.sq_commands.proofs.laws.any_devices.Goals as goal

pub returns : goal.returns
returns g c input output faults = (record { input = input; output = output; faults = faults }, refl, refl, refl)
