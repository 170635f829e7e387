use Rattle.sq_track.proofs.Worlds.Pinned.{one_position_stands as the_law}
use Rattle.sq_track.proofs.pins.one_position_stands.Goals as goal

pub returns : goal.returns
returns c = the_law
