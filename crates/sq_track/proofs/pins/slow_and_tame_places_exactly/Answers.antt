use Rattle.sq_track.proofs.Worlds.Pinned.{places_exactly as the_law}
use Rattle.sq_track.proofs.pins.slow_and_tame_places_exactly.Goals as goal

pub returns : goal.returns
returns c = the_law
