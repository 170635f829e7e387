use Rattle.sq_track.proofs.Worlds.WorkedGroundRows.{second_is_fixed, second_is_fixed_among_others, second_wants_a_site}
use Rattle.sq_track.proofs.worked.second_is_fixed_on_ground.Goals as goal

pub returns-clause-alone : goal.returns-clause-alone
returns-clause-alone c = second_is_fixed

pub returns-clause-among_others : goal.returns-clause-among_others
returns-clause-among_others c = second_is_fixed_among_others

pub returns-clause-no_site : goal.returns-clause-no_site
returns-clause-no_site c = second_wants_a_site
