use Rattle.sq_track.proofs.Worlds.WorkedGround.{two_are_slow}
use Rattle.sq_track.proofs.Worlds.WorkedGroundRows.{two_are_true}
use Rattle.sq_track.proofs.worked.two_are_true_on_ground.Goals as goal

pub returns-clause-slow : goal.returns-clause-slow
returns-clause-slow c = two_are_slow

pub returns-clause-heard : goal.returns-clause-heard
returns-clause-heard c = two_are_true
