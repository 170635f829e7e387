use Rattle.sq_cpr.proofs.Decoding.PairPoints.{close_ground_points_are_answered}
use Rattle.sq_cpr.proofs.laws.close_ground_points_are_answered.Goals as goal

pub returns : goal.returns
returns c = close_ground_points_are_answered
