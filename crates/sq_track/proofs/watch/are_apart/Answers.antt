use Rattle.std.proofs.Common.{◌≡◌, ◌≤◌, ◌*◌, arith}
use Rattle.sq_track.proofs.Gaps.{gap_small}
use Rattle.sq_track.proofs.watch.are_apart.Goals as goal

pub is_longer-requires-clause-way : goal.is_longer-requires-clause-way
is_longer-requires-clause-way c =
    omega (arith, gap_small c.lat-lat.result c.lat-other_lat.result, c.gap.ensures, c.parts.ensures.parts)
