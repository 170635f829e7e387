use Rattle.sq_angle.specs.Angle.{degrees}
use Rattle.sq_angle.specs.Position.{lon_of}
use Rattle.sq_cpr.specs.Code.{numbers_of}
use Rattle.sq_cpr.specs.Pair.{code_pair}
use Rattle.sq_cpr.proofs.Decoding.AirLaw.{air_answer}
use Rattle.sq_cpr.proofs.decode_pair.pair_air.Goals as goal

pub returns : goal.returns
returns c = air_answer (code_pair (numbers_of c.args.even) (numbers_of c.args.odd) c.args.newest)
    (degrees (lon_of c.origin.result)) _ (rw c.origin.ensures.lat at c.pair.ensures)
