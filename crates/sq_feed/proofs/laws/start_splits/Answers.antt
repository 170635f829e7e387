use Rattle.sq_feed.proofs.Lawful.{start_splits}
use Rattle.sq_feed.proofs.laws.start_splits.Goals as goal

pub returns : goal.returns
returns c = start_splits
