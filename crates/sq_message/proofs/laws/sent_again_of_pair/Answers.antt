use Rattle.std.specs.Prelude.{option_copied}
use Rattle.sq_message.proofs.SentFrames.{no_place}
use Rattle.sq_message.proofs.laws.sent_again_of_pair.Goals as goal

pub returns-in_default-clause-none : goal.returns-in_default-clause-none
returns-in_default-clause-none c =
    λ none p q place first second placed. c.in_default.not-Ok p (c.read_frame.ensures.exact p first)

pub returns-in_default-read_frame-clause-none : goal.returns-in_default-read_frame-clause-none
returns-in_default-read_frame-clause-none c =
    λ none p q place first second placed. c.in_default-read_frame.not-Ok q (c.read_frame-2.ensures.exact q second)

pub returns-in-Err-clause-none : goal.returns-in-Err-clause-none
returns-in-Err-clause-none c = λ none.
    no_place c.args.older.now c.args.newer.now c.in-Ok.earlier c.in-Ok-read_frame.squitter
    (option_copied c.args.site) c.in-Err.field-0
    c.in-Ok.ensures.read c.in-Ok-read_frame.ensures.read c.in-Err.ensures.refused
