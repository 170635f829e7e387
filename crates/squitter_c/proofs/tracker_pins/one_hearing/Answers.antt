use Rattle.squitter_c.proofs.OneTrackers.{one_hearing as the_law}
use Rattle.squitter_c.proofs.tracker_pins.one_hearing.Goals as goal

pub returns : goal.returns
returns c = the_law
