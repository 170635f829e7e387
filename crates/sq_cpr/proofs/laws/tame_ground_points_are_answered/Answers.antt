use Rattle.sq_cpr.proofs.Decoding.PairPoints.{tame_ground_points_are_answered}
use Rattle.sq_cpr.proofs.laws.tame_ground_points_are_answered.Goals as goal

pub returns : goal.returns
returns c = tame_ground_points_are_answered
