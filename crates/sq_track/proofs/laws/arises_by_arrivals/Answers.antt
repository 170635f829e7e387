use Rattle.sq_track.proofs.Worlds.ByPairs.{arises_by_arrivals as the_law}
use Rattle.sq_track.proofs.laws.arises_by_arrivals.Goals as goal

pub returns : goal.returns
returns c = the_law
