use Rattle.sq_track.proofs.Worlds.Pinned.{said_exactly as the_law}
use Rattle.sq_track.proofs.laws.what_is_said_of_heard.Goals as goal

pub returns : goal.returns
returns c = the_law
