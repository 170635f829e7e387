use Rattle.sq_devices.specs.Clocks.{times_of}
use Rattle.sq_commands.proofs.Recorded.{run_recorded}
use Rattle.sq_commands.proofs.laws.recorded_has_no_arrivals.Goals as goal

pub returns : goal.returns
returns g c words status first last from to old new before after is =
    run_recorded (times_of g.C.Clock first last) is words status _
