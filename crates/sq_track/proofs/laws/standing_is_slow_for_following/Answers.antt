use Rattle.sq_track.proofs.Worlds.Standing.{standing_is_slow_for_following as the_law}
use Rattle.sq_track.proofs.laws.standing_is_slow_for_following.Goals as goal

pub returns : goal.returns
returns c = the_law
