use Rattle.sq_cpr.proofs.Decoding.PairPoints.{air_pair_keeps_code}
use Rattle.sq_cpr.proofs.laws.air_pair_keeps_code.Goals as goal

pub returns : goal.returns
returns c = air_pair_keeps_code
