use Rattle.sq_message.proofs.Exact.{read_as_pair_exactly, read_near_exactly}
use Rattle.sq_message.proofs.pins.read_exactly.Goals as goal

pub returns-clause-near : goal.returns-clause-near
returns-clause-near c = read_near_exactly

pub returns-clause-pair : goal.returns-clause-pair
returns-clause-pair c = read_as_pair_exactly
