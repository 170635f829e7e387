use Rattle.std.proofs.Common.{inr}
use Rattle.squitter_c.proofs.tracker_new.squitter_tracker_new_at.Goals as goal

pub returns-in-Some-clause-made : goal.returns-in-Some-clause-made
returns-in-Some-clause-made c = inr (c.in-Some.site, c.in-Some.ensures.value, c.make.ensures.made)

pub returns-in-Some-clause-room : goal.returns-in-Some-clause-room
returns-in-Some-clause-room c = c.make.ensures.room
