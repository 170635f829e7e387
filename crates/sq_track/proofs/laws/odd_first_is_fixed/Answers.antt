use Rattle.sq_track.proofs.Worlds.SomeFix.{odd_first_is_fixed as the_law}
use Rattle.sq_track.proofs.laws.odd_first_is_fixed.Goals as goal

pub returns : goal.returns
returns c = the_law
