use Rattle.sq_track.proofs.Worlds.Standing.{near_itself as the_law}
use Rattle.sq_track.proofs.laws.near_itself.Goals as goal

pub returns : goal.returns
returns c = the_law
