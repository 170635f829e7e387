use Rattle.std.proofs.Common.{rules}
use Rattle.sq_log.proofs.HeldLemmas.{holds_fitting, holds_cut}
use Rattle.sq_log.proofs.cutter.Cutter.append.Goals as goal

pub returns-then-bytes-room : goal.returns-then-bytes-room
returns-then-bytes-room c = λ line h. holds_fitting _ _ line c.args.bytes.now h (search rules) (search rules)
    (search rules)

pub returns-else-bytes-room : goal.returns-else-bytes-room
returns-else-bytes-room c = λ line h. holds_cut _ _ line c.args.bytes.now h (search rules) (search rules) (search rules)
