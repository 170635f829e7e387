use Rattle.sq_cpr.proofs.Grids.Codes.{one_code}
use Rattle.sq_cpr.proofs.pins.one_code.Goals as goal

pub returns : goal.returns
returns c = one_code
