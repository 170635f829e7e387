use Rattle.sq_track.proofs.Worlds.Pinned.{one_place_at_180, one_place_exactly, stands_exactly}
use Rattle.sq_track.proofs.pins.standing_exactly.Goals as goal

pub returns-clause-place : goal.returns-clause-place
returns-clause-place c = one_place_exactly

pub returns-clause-at_180 : goal.returns-clause-at_180
returns-clause-at_180 c = one_place_at_180

pub returns-clause-world : goal.returns-clause-world
returns-clause-world c = stands_exactly
