use Rattle.std.proofs.Common.{Ok, Err, refl, rules}
use Rattle.squitter_c.specs.declared.faults.Reason.TheVariants as reasons
use Rattle.squitter_c.proofs.e7.squitter_position_e7.Goals as goal

pub returns-in-Some : goal.returns-in-Some
returns-in-Some c = (Ok c.in-Some.position, c.in-Some.ensures.value, (c.both.ensures, refl))

pub returns-in-None : goal.returns-in-None
returns-in-None c = (Err reasons.NoPosition, (search rules, refl), (refl, c.of.ensures))
