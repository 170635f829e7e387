use Rattle.squitter_c.proofs.OneHeard.{one_heard as the_law}
use Rattle.squitter_c.proofs.plain_pins.one_heard.Goals as goal

pub returns : goal.returns
returns c = the_law
