use Rattle.std.proofs.Common.{refl}
use Rattle.sq_devices.specs.Clocks.{times_of}
use Rattle.sq_devices.specs.contracts.clocks.NoClockClock.TheImpl.{ghosts}
use Rattle.sq_commands.specs.Requests.{asked_by}
use Rattle.sq_commands.proofs.Recorded.{run_recorded}
use Rattle.sq_commands.proofs.program.answer.Goals as goal

pub returns : goal.returns
returns g c =
    run_recorded (times_of ghosts _ c.answer_live.new.clock) refl (asked_by c.args.request) c.answer_live.result _
    c.answer_live.ensures
