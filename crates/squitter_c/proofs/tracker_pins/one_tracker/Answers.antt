use Rattle.squitter_c.proofs.OneTrackers.{one_made, one_made_at}
use Rattle.squitter_c.proofs.tracker_pins.one_tracker.Goals as goal

pub returns-clause-made : goal.returns-clause-made
returns-clause-made c = one_made

pub returns-clause-with_site : goal.returns-clause-with_site
returns-clause-with_site c = one_made_at
