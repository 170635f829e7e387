use Rattle.sq_feed.proofs.Feeding.{feeds_both, feeds_the_whole, told_more}
use Rattle.sq_feed.proofs.laws.feed_gives_the_whole.Goals as goal

pub returns-clause-on : goal.returns-clause-on
returns-clause-on c = told_more

pub returns-clause-whole : goal.returns-clause-whole
returns-clause-whole c = feeds_the_whole

pub returns-clause-both : goal.returns-clause-both
returns-clause-both c = feeds_both
