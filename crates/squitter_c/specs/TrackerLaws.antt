-- Laws of trackers that C holds, whatever they hold: also of restored ones that no history explains.
use Rattle.std.specs.Prelude.{◌≡◌, ◌≢◌, ℕ, List, Option, Some, length}
use Rattle.sq_bits.specs.declared.frame.Frame.{Frame}
use Rattle.squitter_c.specs.declared.entry.PlainEntry.{PlainEntry}
use Rattle.squitter_c.specs.declared.faults.Fault.{Fault}
use Rattle.squitter_c.specs.declared.heard.PlainHeard.{PlainHeard}
use Rattle.squitter_c.specs.declared.tracker_save.PlainLast.{PlainLast}
use Rattle.squitter_c.specs.OneTrackers.{no_memory}
use Rattle.squitter_c.specs.Restoring.{IsRestored, IsSaved}
use Rattle.squitter_c.specs.Seal.{Kept}
use Rattle.squitter_c.specs.Trackers.{IsTrackerHeard, tracker_in}
use Rattle.sq_track.specs.Held.{settings}

-- for any contents of a tracker, a frame has at most one result and leaves one tracker
abbrev pub OneHeardByEntry : Type 0
OneHeardByEntry = (moment : ℕ) (frame : Frame) (k : Kept) (u v : Option Kept) (old new other : PlainHeard)
    (fault why : Fault)
    → IsTrackerHeard moment frame (Some k) u old new fault → IsTrackerHeard moment frame (Some k) v old other why
    → fault ≢ no_memory → why ≢ no_memory → (new ≡ other) × (fault ≡ why) × (u ≡ v)

-- A tracker that was restored from all that another one saved, with the same settings, gives the same result for each
-- frame, and both then hold the same again.
abbrev pub RestoredHearsAsSaved : Type 0
RestoredHearsAsSaved = (k t : Kept) (was is : PlainLast) (before entries : List PlainEntry) (restored : Option Kept)
    → IsSaved (Some k) was is before entries → length entries ≡ length k.tracker.contacts
    → settings t.tracker ≡ settings k.tracker
    → (result : Fault) → IsRestored is entries (Some t) restored result → result ≢ no_memory
    → (moment : ℕ) (frame : Frame) (u v : Option Kept) (old new other : PlainHeard) (fault why : Fault)
    → IsTrackerHeard moment frame (Some k) u old new fault → IsTrackerHeard moment frame restored v old other why
    → fault ≢ no_memory → why ≢ no_memory → (new ≡ other) × (fault ≡ why) × (tracker_in u ≡ tracker_in v)
