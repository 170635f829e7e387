use Rattle.sq_commands.proofs.AllSorted.{writes_all_sorted}
use Rattle.sq_commands.proofs.laws.feed_writes_all_sorted.Goals as goal

pub returns : goal.returns
returns c = writes_all_sorted
