use Rattle.sq_words.proofs.Accepted.{accepted_asks}
use Rattle.std.proofs.Common.{◌∙◌, sym}
use Rattle.sq_words.proofs.Reading.{accepted_by, asks_none, asks_of, no_command, refused_by}
use Rattle.sq_words.proofs.request.read_request.Goals as goal

-- clap's error is about the words, or is out of memory
pub returns-in-Err-clause-refused : goal.returns-in-Err-clause-refused
returns-in-Err-clause-refused c = λ text told.
    refused_by _ _ c.in-Err.error c.in_ok-command.ensures c.in-Err.ensures.kinds (c.refusal_of.ensures text told)

-- accepted words name a command
pub unreachable-requires : goal.unreachable-requires
unreachable-requires c =
    let alike = c.in_ok-command.ensures in
    let asks = accepted_asks _ (sym alike.faults ∙ c.in-Ok.ensures.kinds alike.simple) in
    no_command _ _ c.in-Ok.matches asks.0 alike c.in-Ok.ensures.matches asks.1 c.in_default.ensures.variant

-- the request is what the words ask for
pub returns-clause-asks : goal.returns-clause-asks
returns-clause-asks c =
    let clap = accepted_by _ _ c.in-Ok.matches _ _ c.in_ok-command.ensures c.in-Ok.ensures.kinds c.in-Ok.ensures.matches
    c.in-Some.ensures.name c.in-Some.ensures.rows in
    asks_of _ _ _ _ clap c.in-Some-request_of.ensures.some

-- accepted words ask for something
pub unreachable-requires-in-None : goal.unreachable-requires-in-None
unreachable-requires-in-None c =
    let clap = accepted_by _ _ c.in-Ok.matches _ _ c.in_ok-command.ensures c.in-Ok.ensures.kinds c.in-Ok.ensures.matches
    c.in-Some.ensures.name c.in-Some.ensures.rows in
    let asks = accepted_asks _ clap.accepted in
    asks_none _ _ _ clap c.in-None.ensures.none asks.0 asks.1
