use Rattle.sq_feed.proofs.Following.{follows_more}
use Rattle.sq_feed.proofs.laws.takes_go_on.Goals as goal

pub returns : goal.returns
returns c = follows_more
