use Rattle.sq_cpr.proofs.Distances.Exact.{differ_around_exactly, differ_exactly}
use Rattle.sq_cpr.proofs.pins.differ_exactly.Goals as goal

pub returns-clause-straight : goal.returns-clause-straight
returns-clause-straight c = differ_exactly

pub returns-clause-around : goal.returns-clause-around
returns-clause-around c = differ_around_exactly
