use Rattle.sq_feed.proofs.Tallies.{counts_at_end, counts_each}
use Rattle.sq_feed.proofs.laws.each_item_is_counted.Goals as goal

pub returns-clause-items : goal.returns-clause-items
returns-clause-items c = counts_each

pub returns-clause-end : goal.returns-clause-end
returns-clause-end c = counts_at_end
