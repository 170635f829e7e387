use Rattle.sq_message.proofs.Exact.{no_place_exactly as the_law, no_place_near_exactly}
use Rattle.sq_message.proofs.pins.no_place_exactly.Goals as goal

pub returns-clause-near : goal.returns-clause-near
returns-clause-near c = no_place_near_exactly

pub returns-clause-pair : goal.returns-clause-pair
returns-clause-pair c = the_law
