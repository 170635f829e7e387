use Rattle.sq_track.proofs.Worlds.ByPairs.{slow_by_pairs as the_law}
use Rattle.sq_track.proofs.laws.slow_by_pairs.Goals as goal

pub returns : goal.returns
returns c = the_law
