use Rattle.std.proofs.Common.{refl, subst}
use Rattle.sq_message.specs.Spelling.{IsReading}
use Rattle.sq_message.proofs.laws.read_spelled.Goals as goal

pub unwrap-requires : goal.unwrap-requires
unwrap-requires c = let (q, spells) = c.requires in rw (c.read_frame.ensures.exact q spells) refl

pub returns : goal.returns
returns c = subst (IsReading c.args.frame.now) c.unwrap.ensures c.read_frame.ensures.read
