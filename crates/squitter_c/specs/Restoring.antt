-- Saving a tracker that C holds, and restoring it.
use Rattle.std.specs.Prelude.{◌≡◌, ◌≢◌, ◌<◌, ◌⊎◌, [], ℕ, List, Option, Some, None, length, take}
use Rattle.std.specs.Prelude.{slice_get, slice_index_or}
use Rattle.squitter_c.specs.declared.faults.Fault.{Fault}
use Rattle.squitter_c.specs.declared.faults.Reason.TheVariants as reasons
use Rattle.squitter_c.specs.Faults.{fault_of, none}
use Rattle.squitter_c.specs.Seal.{Kept}
use Rattle.sq_track.specs.declared.contact.Contact.{Contact}
use Rattle.sq_track.specs.Held.{Held, settings}
use Rattle.sq_track.specs.Restoring.{CanBeRestored, CanFollow}
use Rattle.squitter_c.specs.declared.entry.PlainEntry.{PlainEntry}
use Rattle.squitter_c.specs.declared.tracker_save.PlainLast.{PlainLast}
use Rattle.squitter_c.specs.Entries.{AreEntriesOf, IsEntryOf}

-- the last accepted timestamp, or none
abbrev pub IsLast : PlainLast → Option ℕ → Type 0
IsLast plain (Some last) = (plain.heard ≢ 0) × (plain.moment ≡ last)
IsLast plain None = plain.heard ≡ 0

-- ---- saving

-- an entry at an index is written; elements past the last entry are unchanged
abbrev pub IsToldAt : Option (ℕ × Contact) → (was is : PlainEntry) → Type 0
IsToldAt (Some e) was is = IsEntryOf is e
IsToldAt None was is = is ≡ was

-- the entries are written, the longest silent first, as many as fit
pub record AreTold (contacts : List (ℕ × Contact)) (was is : List PlainEntry) : Type 0 where
  pub long : length is ≡ length was
  pub each : (k : ℕ) → k < length was → (p : PlainEntry)
      → IsToldAt (slice_get contacts k) (slice_index_or was k p) (slice_index_or is k p)

-- a tracker's last timestamp and its entries are written; without a tracker nothing is
abbrev pub IsSaved : Option Kept → (was is : PlainLast) → (old new : List PlainEntry) → Type 0
IsSaved (Some k) was is old new =
    IsLast is k.tracker.last × AreTold k.tracker.contacts old new × CanBeRestored k.tracker
IsSaved None was is old new = (is ≡ was) × (new ≡ old)

-- ---- restoring

-- the tracker with this last timestamp and these contacts
abbrev pub holding : Held → Option ℕ → List (ℕ × Contact) → Held
holding t last contacts = record t { last = last; contacts = contacts }

-- the tracker that has heard nothing
abbrev pub unheard : Held → Held
unheard t = holding t None []

-- the entry at the index is the first that no tracker can hold after the entries before it
pub record IsRefusedAt (index : ℕ) (t : Held) (last : Option ℕ) (entries : List PlainEntry) : Type 0 where
  pub inside : index < length entries
  pub front : List (ℕ × Contact)
  pub before : AreEntriesOf (take index entries) front
  pub held : CanBeRestored (holding t last front)
  pub address : ℕ
  pub contact : Contact
  pub there : (p : PlainEntry) → IsEntryOf (slice_index_or entries index p) (address, contact)
  pub refused : ¬ (CanFollow (holding t last front) address contact)

-- the tracker holds what the entries represent, and a tracker can hold that
pub record HasRestored (t : Held) (last : Option ℕ) (entries : List PlainEntry) (new : Held) : Type 0 where
  pub contacts : List (ℕ × Contact)
  pub stand : AreEntriesOf entries contacts
  pub held : CanBeRestored (holding t last contacts)
  pub is : new ≡ holding t last contacts

-- the effect of restoring these entries on a tracker
abbrev pub IsRestoring : (t : Held) → (last : Option ℕ) → List PlainEntry → (new : Held) → Fault → Type 0
IsRestoring t last entries new fault =
    (HasRestored t last entries new × (fault ≡ none))
    ⊎ ((index : ℕ) × IsRefusedAt index t last entries × (new ≡ unheard t) × (fault ≡ fault_of (reasons.Entry index)))
    ⊎ ((new ≡ unheard t) × (fault ≡ fault_of reasons.Memory))

-- the same, or the fault if there is no tracker
abbrev pub IsRestored : PlainLast → List PlainEntry → (old new : Option Kept) → Fault → Type 0
IsRestored plain entries (Some k) new fault = (last : Option ℕ) × (after : Held) × IsLast plain last
    × IsRestoring k.tracker last entries after fault × (new ≡ Some (record k { tracker = after }))
IsRestored plain entries None new fault = (new ≡ None) × (fault ≡ fault_of reasons.NoTracker)

-- A tracker with the same settings restores all that a tracker saved, unless memory runs out.
abbrev pub RestoredAsSaved : Type 0
RestoredAsSaved = (k t : Kept) (was is : PlainLast) (old entries : List PlainEntry) (new : Option Kept) (fault : Fault)
    → IsSaved (Some k) was is old entries → length entries ≡ length k.tracker.contacts
    → settings t.tracker ≡ settings k.tracker
    → IsRestored is entries (Some t) new fault → fault ≢ fault_of reasons.Memory
    → (fault ≡ none) × (new ≡ Some (record t { tracker = k.tracker }))
