-- What the program does with a command line.
use Rattle.std.specs.Prelude.{◌≡◌, ◌⊎◌, ℕ, List, codes}
use Rattle.sq_devices.specs.Changes.{TookNothing, WroteNothing, WroteOrFailed}
use Rattle.sq_devices.specs.Clocks.{Times, recorded}
use Rattle.sq_devices.specs.declared.start.Trouble.{Trouble}
use Rattle.sq_devices.specs.declared.start.Trouble.TheVariants as troubles
use Rattle.sq_log.specs.Faults.{run_fault_text}
use Rattle.sq_log.specs.declared.run.RunFault.TheVariants.{Memory}
use Rattle.sq_commands.specs.Requests.{Asked, Text}
use Rattle.sq_words.specs.Requests.{Asks, IsFaulty}
use Rattle.sq_commands.specs.declared.status.Status.{Status}
use Rattle.sq_commands.specs.declared.status.Status.TheVariants.{Broken, Misused}
use Rattle.sq_commands.specs.Outputs.{Effects, Reported}
use Rattle.sq_commands.specs.Runs.{IsTimedRun}

-- Clap finds an error in the words, or they ask for help: nothing is read, nothing is written to the output, and some
-- text is reported.
abbrev pub IsRefusal : List Text → Status → Effects → Type 0
IsRefusal words status e = IsFaulty words × (status ≡ Misused) × TookNothing e.input × WroteNothing e.outputs.output
    × ((text : List ℕ) × WroteOrFailed e.outputs.reports text)

-- there is no memory to read the words: nothing is read or written to the output, and that is reported
abbrev pub IsUnread : Status → Effects → Type 0
IsUnread status e = (status ≡ Broken) × TookNothing e.input × WroteNothing e.outputs.output
    × Reported e.outputs (run_fault_text Memory)

-- why a run does not start: the status, and the report
abbrev pub trouble_status : Trouble → Status
trouble_status troubles.Words = Misused
trouble_status troubles.Memory = Broken

abbrev pub trouble_text : Trouble → List ℕ
trouble_text troubles.Words = codes "bad words"
trouble_text troubles.Memory = run_fault_text Memory

-- the words ask for a command, which runs with the clock; or they are refused; or there is no memory to read them
abbrev pub IsTimedProgramRun : Times → List Text → Status → Effects → Type 0
IsTimedProgramRun clock words status e =
    ((asked : Asked) × Asks words asked × IsTimedRun clock asked status e) ⊎ IsRefusal words status e
    ⊎ IsUnread status e

-- the same on a recorded input
abbrev pub IsProgramRun : List Text → Status → Effects → Type 0
IsProgramRun = IsTimedProgramRun recorded
