use Rattle.std.proofs.Common.{◌≡◌, ℕ, List, take}
use Rattle.sq_track.specs.declared.contact.Contact.{Contact}
use Rattle.sq_track.specs.Restoring.{CanBeRestored}
use Rattle.squitter_c.specs.Entries.{AreEntriesOf}
use Rattle.squitter_c.specs.Restoring.{holding}
use Rattle.squitter_c.proofs.tracker_restore.restore.Given as goal

abbrev pub invariant-loop-at : goal.invariant-loop-at
invariant-loop-at g l = (contacts : List (ℕ × Contact)) × AreEntriesOf (take l.at l.entries) contacts
    × CanBeRestored (holding l.initial.tracker l.fn.last contacts)
    × (l.tracker ≡ holding l.initial.tracker l.fn.last contacts)
