use Rattle.sq_track.proofs.Worlds.Followed.{followed_after_a_fix as the_law}
use Rattle.sq_track.proofs.laws.followed_after_a_fix.Goals as goal

pub returns : goal.returns
returns c = the_law
