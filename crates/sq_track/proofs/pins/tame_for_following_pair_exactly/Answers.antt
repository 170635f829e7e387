use Rattle.sq_track.proofs.Worlds.Pinned.{tame_for_following_pair_exactly as the_law}
use Rattle.sq_track.proofs.pins.tame_for_following_pair_exactly.Goals as goal

pub returns : goal.returns
returns c = the_law
