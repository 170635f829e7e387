-- How a command ends.
use Rattle.std.specs.Prelude.{ℕ}
use Rattle.sq_commands.specs.declared.status.Status.{Status}
use Rattle.sq_commands.specs.declared.status.Status.TheVariants.{Good, Refused, Misused, Broken}

-- the exit status of the process
abbrev pub exit_status : Status → ℕ
exit_status Good = 0
exit_status Refused = 1
exit_status Misused = 2
exit_status Broken = 3
