use Rattle.sq_track.proofs.Worlds.Pinned.{one_parity_is_slow as the_law}
use Rattle.sq_track.proofs.pins.one_parity_is_slow.Goals as goal

pub returns : goal.returns
returns c = the_law
