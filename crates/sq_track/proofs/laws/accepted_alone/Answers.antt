use Rattle.sq_track.proofs.Histories.OneAddress.{accepted_alone as the_law}
use Rattle.sq_track.proofs.laws.accepted_alone.Goals as goal

pub returns : goal.returns
returns c = the_law
