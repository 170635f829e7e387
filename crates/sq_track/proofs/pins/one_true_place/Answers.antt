use Rattle.sq_track.proofs.Worlds.Places.{one_true_place as the_law}
use Rattle.sq_track.proofs.pins.one_true_place.Goals as goal

pub returns : goal.returns
returns c = the_law
