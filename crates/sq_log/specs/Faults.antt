-- The reports on runs that stopped early.
use Rattle.std.specs.Prelude.{ℕ, List, codes}
use Rattle.sq_log.specs.declared.run.RunFault.{RunFault}
use Rattle.sq_log.specs.declared.run.RunFault.TheVariants.{Read, Write, Memory}

-- the report on a run that stopped early
abbrev pub run_fault_text : RunFault → List ℕ
run_fault_text Read = codes "read failed"
run_fault_text Write = codes "write failed"
run_fault_text Memory = codes "out of memory"
