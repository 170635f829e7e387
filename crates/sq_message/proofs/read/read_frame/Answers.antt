use Rattle.std.proofs.Common.{Ok, ap, rules}
use Rattle.sq_message.specs.declared.squitter.FrameFault.TheVariants as faults
use Rattle.sq_message.specs.Spelling.{IsFault}
use Rattle.sq_message.proofs.One.{one_squitter, no_fault}
use Rattle.sq_message.proofs.read.read_frame.Goals as goal

pub returns-then-remainder-ne0-clause-exact : goal.returns-then-remainder-ne0-clause-exact
returns-then-remainder-ne0-clause-exact c q spells =
    let fault : IsFault c.args.frame.now (faults.Parity c.remainder-remainder.result) = search rules in
    absurd (no_fault c.args.frame.now q (faults.Parity c.remainder-remainder.result) spells fault)

pub returns-clause-exact : goal.returns-clause-exact
returns-clause-exact c q spells = ap Ok (one_squitter c.args.frame.now _ q (search rules) spells)
