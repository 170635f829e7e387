use Rattle.sq_tool.proofs.program.report_trouble.Goals as goal

pub returns-in-Memory-clause-told : goal.returns-in-Memory-clause-told
returns-in-Memory-clause-told g c = rw c.in-Memory.is c.break_off.ensures.reported
