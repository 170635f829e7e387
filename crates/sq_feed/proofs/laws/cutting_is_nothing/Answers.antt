use Rattle.sq_feed.proofs.Lawful.{gives_the_stream}
use Rattle.sq_feed.proofs.laws.cutting_is_nothing.Goals as goal

pub returns : goal.returns
returns c = gives_the_stream
