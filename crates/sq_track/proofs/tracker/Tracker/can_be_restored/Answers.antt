use Rattle.std.proofs.Common.{subst}
use Rattle.sq_track.specs.Restoring.{CanBeRestored}
use Rattle.sq_track.specs.contracts.tracker.Tracker.{the_view}
use Rattle.sq_track.proofs.Table.RestoreLemmas.{restored_each}
use Rattle.sq_track.proofs.tracker.Tracker.can_be_restored.Goals as goal

pub returns : goal.returns
returns g c =
    subst CanBeRestored c.self.view_is
    (restored_each (the_view g.row.A g.A.Allocator c.self.inside) c.self.invariant.0 c.len-distinct.ensures.unique)
