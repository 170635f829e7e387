use Rattle.sq_track.proofs.Histories.OneAddress.{alone_is_history as the_law}
use Rattle.sq_track.proofs.laws.alone_is_history.Goals as goal

pub returns : goal.returns
returns c = the_law
