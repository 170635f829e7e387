use Rattle.sq_track.proofs.Worlds.ByPairs.{slow_for_following_pair_exactly as the_law}
use Rattle.sq_track.proofs.pins.slow_for_following_pair_exactly.Goals as goal

pub returns : goal.returns
returns c = the_law
