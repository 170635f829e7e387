use Rattle.sq_message.proofs.One.{no_fault}
use Rattle.squitter_c.proofs.entry.received_of.Goals as goal

pub returns-in-Err : goal.returns-in-Err
returns-in-Err c = λ q spells. no_fault _ q c.in-Err.field-0 spells c.in-Err.ensures.read
