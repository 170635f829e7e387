use Rattle.squitter_c.proofs.FeedSteps.{all_given, all_written}
use Rattle.squitter_c.proofs.feed_laws.all_given.Goals as goal

pub returns-clause-arrays : goal.returns-clause-arrays
returns-clause-arrays c = all_given

pub returns-clause-text : goal.returns-clause-text
returns-clause-text c = all_written
