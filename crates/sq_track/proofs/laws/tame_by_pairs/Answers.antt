use Rattle.sq_track.proofs.Worlds.ByPairs.{tame_by_pairs, tame_for_following_by_pairs}
use Rattle.sq_track.proofs.laws.tame_by_pairs.Goals as goal

pub returns-clause-tame : goal.returns-clause-tame
returns-clause-tame c = tame_by_pairs

pub returns-clause-following : goal.returns-clause-following
returns-clause-following c = tame_for_following_by_pairs
