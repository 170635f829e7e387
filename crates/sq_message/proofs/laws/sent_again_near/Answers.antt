use Rattle.sq_message.proofs.SentFrames.{no_place_near}
use Rattle.sq_message.proofs.laws.sent_again_near.Goals as goal

pub returns-in_default-clause-none : goal.returns-in_default-clause-none
returns-in_default-clause-none c =
    λ none squitter place read placed. c.in_default.not-Ok squitter (c.read_frame.ensures.exact squitter read)

pub returns-in-Err-clause-none : goal.returns-in-Err-clause-none
returns-in-Err-clause-none c =
    λ none. no_place_near c.args.frame.now c.in-Ok.squitter c.args.reference.now c.in-Err.field-0 c.in-Ok.ensures.read
    c.in-Err.ensures.refused
