use Rattle.sq_cpr.proofs.Distances.Exact.{across_180_degrees}
use Rattle.sq_cpr.proofs.pins.across_180_degrees.Goals as goal

pub returns : goal.returns
returns c = across_180_degrees
