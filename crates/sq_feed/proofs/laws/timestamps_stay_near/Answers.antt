use Rattle.sq_feed.proofs.Nearness.{stays_near, stays_near_at_end}
use Rattle.sq_feed.proofs.laws.timestamps_stay_near.Goals as goal

pub returns-clause-items : goal.returns-clause-items
returns-clause-items c = stays_near

pub returns-clause-end : goal.returns-clause-end
returns-clause-end c = stays_near_at_end
