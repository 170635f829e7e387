use Rattle.sq_track.proofs.Worlds.ByPairs.{apart_is_slow as the_law}
use Rattle.sq_track.proofs.laws.apart_is_slow.Goals as goal

pub returns : goal.returns
returns c = the_law
