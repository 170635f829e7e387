use Rattle.sq_track.proofs.Worlds.Pinned.{memory_exactly as the_law}
use Rattle.sq_track.proofs.pins.out_of_memory_exactly.Goals as goal

pub returns : goal.returns
returns c = the_law
