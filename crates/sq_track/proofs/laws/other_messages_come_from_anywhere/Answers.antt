use Rattle.sq_track.proofs.Worlds.Pinned.{other_is_encoded as the_law}
use Rattle.sq_track.proofs.laws.other_messages_come_from_anywhere.Goals as goal

pub returns : goal.returns
returns c = the_law
