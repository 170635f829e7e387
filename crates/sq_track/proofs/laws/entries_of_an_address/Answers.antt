use Rattle.sq_track.proofs.Worlds.Pinned.{of_address_exactly as the_law}
use Rattle.sq_track.proofs.laws.entries_of_an_address.Goals as goal

pub returns : goal.returns
returns c = the_law
