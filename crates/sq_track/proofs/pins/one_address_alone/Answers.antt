use Rattle.sq_track.proofs.Histories.OneAddress.{one_address_alone as the_law}
use Rattle.sq_track.proofs.pins.one_address_alone.Goals as goal

pub returns : goal.returns
returns c = the_law
