-- The effect of a call on a tracker, by what the tracker holds, whatever that is.
use Rattle.std.specs.Prelude.{◌≡◌, ◌≢◌, ◌↔◌, ◌≤◌, ◌<◌, ℕ, nat_eq, List, [], ◌∷◌, ◌++◌, length, filter, None, Some, Result, Ok}
use Rattle.std.specs.Prelude.{Err}
use Rattle.std.specs.List.{AllByRecursion}
use Rattle.std.specs.Map.{lookup}
use Rattle.sq_message.specs.Parts.{squitter_parts}
use Rattle.sq_message.specs.Places.{IsPosition}
use Rattle.sq_message.specs.declared.received.Received.{Received}
use Rattle.sq_message.specs.declared.squitter.Squitter.{Squitter}
use Rattle.sq_track.specs.declared.contact.Contact.{Contact}
use Rattle.sq_track.specs.declared.heard.Heard.{Heard}
use Rattle.sq_track.specs.declared.heard.Heard.TheVariants.{NotPosition}
use Rattle.sq_track.specs.declared.heard.TrackFault.{TrackFault}
use Rattle.sq_track.specs.declared.heard.TrackFault.TheVariants.{NoLimit, Memory, MomentBack, Full}
use Rattle.sq_track.specs.Entries.{IsNotBack, fresh_entry}
use Rattle.sq_track.specs.Held.{Held, contact_of}
use Rattle.sq_track.specs.Kept.{IsHearingByKept}
use Rattle.sq_track.specs.Ordered.{others_in}

-- the entries with a position that is at most the window older than the timestamp
abbrev pub fresh_at : (moment : ℕ) → Held → List (ℕ × Contact)
fresh_at moment t = filter (fresh_entry t.window moment) t.contacts

-- of these, the entries of other addresses than the squitter's
abbrev pub others_at : (moment : ℕ) → Squitter → Held → List (ℕ × Contact)
others_at moment squitter t = others_in (squitter_parts squitter).address (fresh_at moment t)

-- the squitter is a position, and as many other addresses as the limit have a fresh entry
pub record IsFullOfEntries (moment : ℕ) (squitter : Squitter) (t : Held) : Type 0 where
  pub position : IsPosition (squitter_parts squitter).me
  pub others : t.limit ≤ length (others_at moment squitter t)

-- the tracker accepts the squitter, unless memory runs out
pub record IsWelcomeTo (moment : ℕ) (squitter : Squitter) (t : Held) : Type 0 where
  pub in_time : IsNotBack t.last moment
  pub room : ¬ IsFullOfEntries moment squitter t

-- The result for a position, by the entry of its address, and the entries afterwards. The entry of the address comes
-- last, as the squitter leaves it. The other entries that are fresh stay in order, and all others are dropped.
pub record IsEntered (moment : ℕ) (squitter : Squitter) (t : Held) (heard : Heard) (entries : List (ℕ × Contact))
    : Type 0 where
  pub after : Contact
  pub hearing : IsHearingByKept t.window t.site moment squitter
      (contact_of t.contacts (squitter_parts squitter).address) heard after
  pub entries_are : entries ≡ others_at moment squitter t ++ ((squitter_parts squitter).address, after) ∷ []

-- the result for a squitter, and the entries afterwards; a message without a position only drops entries
pub record IsPassed (moment : ℕ) (squitter : Squitter) (t : Held) (heard : Heard) (entries : List (ℕ × Contact))
    : Type 0 where
  pub position : IsPosition (squitter_parts squitter).me → IsEntered moment squitter t heard entries
  pub other : ¬ IsPosition (squitter_parts squitter).me → (heard ≡ NotPosition) × (entries ≡ fresh_at moment t)

-- The reply to a squitter, by what the tracker holds, and the tracker afterwards: the result, or the first fault that
-- applies. After a fault the tracker is unchanged. Only a position of an address without an entry may need memory.
abbrev pub IsHeardByEntries : (moment : ℕ) → Squitter → (old new : Held) → Result Heard TrackFault → Type 0
IsHeardByEntries moment squitter old new (Ok heard) =
    IsWelcomeTo moment squitter old
    × ((entries : List (ℕ × Contact)) × IsPassed moment squitter old heard entries
    × (new ≡ record old { last = Some moment; contacts = entries }))
IsHeardByEntries moment squitter old new (Err (MomentBack last)) =
    (old.last ≡ Some last) × (moment < last) × (new ≡ old)
IsHeardByEntries moment squitter old new (Err Full) =
    IsNotBack old.last moment × IsFullOfEntries moment squitter old × (new ≡ old)
IsHeardByEntries moment squitter old new (Err Memory) =
    IsWelcomeTo moment squitter old × IsPosition (squitter_parts squitter).me
    × (lookup (nat_eq (squitter_parts squitter).address) old.contacts ≡ None) × (new ≡ old)
IsHeardByEntries moment squitter old new (Err NoLimit) = ⊥

-- the replies to squitters that are heard in order, by what the tracker holds before each, and the tracker afterwards
abbrev pub AreHeardByEntries : List Received → (old new : Held) → List (Result Heard TrackFault) → Type 0
AreHeardByEntries [] old new [] = new ≡ old
AreHeardByEntries [] old new (reply ∷ replies) = ⊥
AreHeardByEntries (one ∷ later) old new [] = ⊥
AreHeardByEntries (one ∷ later) old new (reply ∷ replies) = (next : Held)
    × IsHeardByEntries one.moment one.squitter old next reply × AreHeardByEntries later next new replies

-- ---- laws

-- what a tracker holds, whatever that is, gives at most one reply to a squitter and one tracker afterwards, unless
-- memory runs out
abbrev pub OneByEntries : Type 0
OneByEntries =
    (moment : ℕ) (squitter : Squitter) (old new other : Held) (x y : Result Heard TrackFault)
    → x ≢ Err Memory → y ≢ Err Memory → IsHeardByEntries moment squitter old new x
    → IsHeardByEntries moment squitter old other y → (x ≡ y) × (new ≡ other)

-- what a tracker holds, whatever that is, gives at most one list of replies to squitters, and one tracker after them,
-- unless memory runs out
abbrev pub OneEachByEntries : Type 0
OneEachByEntries =
    (received : List Received) (old new other : Held) (xs ys : List (Result Heard TrackFault))
    → AllByRecursion (λ reply. reply ≢ Err Memory) xs → AllByRecursion (λ reply. reply ≢ Err Memory) ys
    → AreHeardByEntries received old new xs → AreHeardByEntries received old other ys → (xs ≡ ys) × (new ≡ other)

-- what a tracker holds, whatever that is, gives a reply other than `Memory` to each squitter
abbrev pub SomeByEntries : Type 0
SomeByEntries =
    (moment : ℕ) (squitter : Squitter) (old : Held) → (new : Held) × (reply : Result Heard TrackFault)
    × IsHeardByEntries moment squitter old new reply × (reply ≢ Err Memory)

-- out of memory is a possible reply exactly if the squitter is the position of an address without an entry, and may be
-- accepted
abbrev pub MemoryByEntries : Type 0
MemoryByEntries =
    (moment : ℕ) (squitter : Squitter) (old : Held) → IsHeardByEntries moment squitter old old (Err Memory)
    ↔ (IsWelcomeTo moment squitter old × IsPosition (squitter_parts squitter).me
    × (lookup (nat_eq (squitter_parts squitter).address) old.contacts ≡ None))
