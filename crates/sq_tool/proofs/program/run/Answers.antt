use Rattle.std.proofs.Common.{refl}
use Rattle.sq_devices.specs.Clocks.{times_of}
use Rattle.sq_devices.specs.contracts.clocks.NoClockClock.TheImpl.{ghosts}
use Rattle.sq_tool.proofs.OneRuns.{program_recorded}
use Rattle.sq_tool.proofs.program.run.Goals as goal

-- without a clock the input is recorded
pub returns : goal.returns
returns g c =
    let ran = c.run_live.ensures in
    (ran.0, ran.1, program_recorded (times_of ghosts _ c.run_live.new.clock) refl _ ran.0 _ ran.2)
