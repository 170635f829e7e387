use Rattle.sq_cpr.proofs.Decoding.AirLaw.{one_air_pair_answer}
use Rattle.sq_cpr.proofs.pins.one_air_pair_answer.Goals as goal

pub returns : goal.returns
returns c = one_air_pair_answer
