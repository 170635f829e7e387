use Rattle.sq_commands.proofs.OnePast.{one_past as the_law}
use Rattle.sq_commands.proofs.pins.one_past.Goals as goal

pub returns : goal.returns
returns c = the_law
