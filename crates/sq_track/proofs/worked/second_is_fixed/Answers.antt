use Rattle.sq_track.proofs.Worlds.WorkedRows.{second_is_fixed_among_others}
use Rattle.sq_track.proofs.Worlds.WorkedRows.{second_is_fixed}
use Rattle.sq_track.proofs.worked.second_is_fixed.Goals as goal

pub returns-clause-alone : goal.returns-clause-alone
returns-clause-alone c = second_is_fixed

pub returns-clause-among_others : goal.returns-clause-among_others
returns-clause-among_others c = second_is_fixed_among_others
