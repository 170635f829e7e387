use Rattle.std.proofs.Common.{Option, subst, sym}
use Rattle.sq_message.specs.declared.received.Received.{Received}
use Rattle.squitter_c.specs.Entries.{IsReceivedOf, no_bytes}
use Rattle.squitter_c.proofs.Entries.{nothing_spelled}
use Rattle.squitter_c.proofs.entry.plain_received.Goals as goal

pub returns-in-None : goal.returns-in-None
returns-in-None c =
    subst (λ (kept : Option Received). IsReceivedOf (record { moment = 0; frame = no_bytes }) kept)
    (sym c.in-None.is) nothing_spelled
