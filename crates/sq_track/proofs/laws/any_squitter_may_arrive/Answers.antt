use Rattle.sq_track.proofs.Worlds.Pinned.{some_arrival as the_law}
use Rattle.sq_track.proofs.laws.any_squitter_may_arrive.Goals as goal

pub returns : goal.returns
returns c = the_law
