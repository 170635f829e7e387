use Rattle.sq_feed.proofs.RowLemmas.{line_is_read}
use Rattle.sq_feed.proofs.laws.line_is_read.Goals as goal

pub returns : goal.returns
returns c = line_is_read
