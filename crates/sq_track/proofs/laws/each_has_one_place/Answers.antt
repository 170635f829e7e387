use Rattle.sq_track.proofs.Worlds.Places.{each_has_one_place as the_law}
use Rattle.sq_track.proofs.laws.each_has_one_place.Goals as goal

pub returns : goal.returns
returns c = the_law
