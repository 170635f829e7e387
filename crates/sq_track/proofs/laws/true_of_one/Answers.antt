use Rattle.sq_track.proofs.Worlds.Pinned.{true_of_one as the_law}
use Rattle.sq_track.proofs.laws.true_of_one.Goals as goal

pub returns : goal.returns
returns c = the_law
