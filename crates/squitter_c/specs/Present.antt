-- The addresses that are present in a tracker that C holds.
use Rattle.std.specs.Prelude.{◌≡◌, ◌-◌, ◌<◌, ℕ, List, Option, Some, None, [], drop, length, min}
use Rattle.std.specs.Prelude.{slice_get, slice_index_or}
use Rattle.sq_track.specs.declared.contact.Contact.{Contact}
use Rattle.sq_track.specs.Held.{heard_since}
use Rattle.squitter_c.specs.declared.entry.PlainEntry.{PlainEntry}
use Rattle.squitter_c.specs.Entries.{IsEntryOf}
use Rattle.squitter_c.specs.Restoring.{AreTold}
use Rattle.squitter_c.specs.Seal.{Kept}

-- the addresses that were heard at or after a timestamp, the last heard first; none without a tracker
abbrev pub present_since : (since : ℕ) → Option Kept → List (ℕ × Contact)
present_since since None = []
present_since since (Some k) = heard_since since k.tracker

-- the entries from an index on are written, as many as fit
pub record IsPresent (held : Option Kept) (since from : ℕ) (old new : List PlainEntry) (count : ℕ) : Type 0 where
  pub written : count ≡ min (length (present_since since held) - from) (length old)
  pub told : AreTold (drop from (present_since since held)) old new

-- Each element of the array is the entry of the address at its place among those heard, as many are counted as there
-- are, up to the array's end, and nobody is counted without a tracker.
abbrev pub PresentExactly : Type 0
PresentExactly = (held : Option Kept) (since from : ℕ) (old new : List PlainEntry) (count : ℕ)
    → IsPresent held since from old new count
    → (held ≡ None → count ≡ 0)
    × ((k : Kept) → held ≡ Some k → count ≡ min (length (heard_since since k.tracker) - from) (length old))
    × ((k : Kept) (n : ℕ) (e : ℕ × Contact) (p : PlainEntry) → held ≡ Some k → n < length old
    → slice_get (drop from (heard_since since k.tracker)) n ≡ Some e → IsEntryOf (slice_index_or new n p) e)
