use Rattle.sq_track.proofs.Worlds.SomeFix.{odd_first_is_fixed_on_ground as the_law}
use Rattle.sq_track.proofs.laws.odd_first_is_fixed_on_ground.Goals as goal

pub returns : goal.returns
returns c = the_law
