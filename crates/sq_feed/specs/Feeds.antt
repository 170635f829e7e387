-- A source's bytes as squitters with their timestamps.
use Rattle.std.specs.Prelude.{◌≡◌, ◌++◌, ◌+◌, ◌*◌, ⊤, ℕ, Bool, true, false, List, [], ◌∷◌, length, Option, if◌then◌else◌}
use Rattle.std.specs.List.{flat_map}
use Rattle.sq_feed.specs.declared.machine.Format.{Format}
use Rattle.sq_feed.specs.declared.manner.Manner.{Manner}
use Rattle.sq_feed.specs.declared.message.Found.{Found}
use Rattle.sq_feed.specs.declared.message.Timed.{Timed}
use Rattle.sq_feed.specs.Ears.{Hears, ear_after_all, ear_ended, lost, told_ended, told_of_all, untouched}
use Rattle.sq_feed.specs.Follows.{Follows}
use Rattle.sq_feed.specs.Lines.{log_line}
use Rattle.sq_feed.specs.Readers.{HasClosed, IsNew, Reads, awaited, calls_for, calls_left, format_at, items_as, lost_items, new_reads}

-- the state: the reader of the source; the times and the counts; and the squitters that later steps give
pub record Feeding : Type 0 where
  pub reader : Reads
  pub ear : Hears
  pub ready : List Timed

abbrev pub nothing_fed : Option Format → Manner → Feeding
nothing_fed asked manner = record { reader = new_reads asked; ear = untouched manner; ready = [] }

-- the number of steps that are needed without a byte, at most: an item can make four squitters ready
abbrev pub steps_left : Feeding → ℕ
steps_left feed = 4 * calls_left feed.reader + length feed.ready

-- the most steps that bytes can make necessary
abbrev pub steps_for : ℕ → ℕ
steps_for count = 4 * calls_for count

-- the lines of squitters, in order
abbrev pub lines_of : List Timed → List ℕ
lines_of told = flat_map (λ t. log_line t.moment t.frame) told

-- A feed took these bytes, which arrived at `arrival` (ms), and found these items.
pub record HasFed (arrival : ℕ) (old : Feeding) (bytes : List ℕ) (found : List Found) (new : Feeding) : Type 0 where
  pub same : new.reader.asked ≡ old.reader.asked
  pub follows : Follows (awaited old.reader) bytes found (awaited new.reader)
  pub heard : new.ear ≡ ear_after_all arrival old.ear found

-- A feed took these bytes. It gave the squitters that were ready and then those of the items found, or they are ready.
pub record HasTold (arrival : ℕ) (old : Feeding) (bytes : List ℕ) (told : List Timed) (new : Feeding) : Type 0 where
  pub found : List Found
  pub fed : HasFed arrival old bytes found new
  pub told_are : told ++ new.ready ≡ old.ready ++ told_of_all arrival old.ear found

-- the squitter in a slot, if one was stored there
abbrev pub stored : Bool → Timed → List Timed
stored is_filled slot = if is_filled then slot ∷ [] else []

-- the state after the last items of a source
abbrev pub ear_at_last : ℕ → Feeding → Hears
ear_at_last arrival old = ear_after_all arrival old.ear (awaited old.reader [])

-- the state at the end of a source, and the squitters that its last items and the end of its rows give
abbrev pub ear_at_end : ℕ → Feeding → Hears
ear_at_end arrival old = ear_ended (ear_at_last arrival old)

abbrev pub told_at_end : ℕ → Feeding → List Timed
told_at_end arrival old =
    told_of_all arrival old.ear (awaited old.reader []) ++ told_ended (ear_at_last arrival old)

-- A source ended: its last items wait to be heard, and another source may follow.
pub record HasClosedFeed (old new : Feeding) : Type 0 where
  pub closed : HasClosed old.reader new.reader
  pub same_ear : new.ear ≡ old.ear
  pub same_ready : new.ready ≡ old.ready

-- No row comes that confirms a time: the frames that wait are ready, or set aside.
pub record HasSettled (old new : Feeding) : Type 0 where
  pub same_reader : new.reader ≡ old.reader
  pub heard : new.ear ≡ ear_ended old.ear
  pub told_are : new.ready ≡ old.ready ++ told_ended old.ear

-- A source that has ended gave these squitters: only those of its last items, or, once these were given, those of rows
-- that waited too.
abbrev pub HasToldLast : (is_settled : Bool) → (arrival : ℕ) → (old : Feeding) → List Timed → (new : Feeding) → Type 0
HasToldLast false arrival old told new = HasTold arrival old [] told new
HasToldLast true arrival old told new = (mid : Feeding) × (settled : Feeding) × (first : List Timed)
    × (second : List Timed) × HasTold arrival old [] first mid × (steps_left mid ≡ 0) × HasSettled mid settled
    × HasTold arrival settled [] second new × (told ≡ first ++ second)

-- A connection was lost: an unfinished item is damage, no row comes that confirms a time, and the clock starts afresh
-- with the next connection.
pub record HasLost (old new : Feeding) : Type 0 where
  pub anew : IsNew old.reader.asked new.reader
  pub heard : new.ear ≡ lost (ear_after_all 0 old.ear (lost_items old.reader))
  pub told_are : new.ready ≡ old.ready ++ told_ended (ear_after_all 0 old.ear (lost_items old.reader))

-- the format of the source, once it is known
abbrev pub format_of_source : Feeding → Option Format
format_of_source feed = format_at feed.reader.stage feed.reader

-- ---- laws

-- A feed that takes bytes twice, both with one arrival, has taken the bytes and given the squitters of both.
abbrev pub FeedsGoOn : Type 0
FeedsGoOn = (arrival : ℕ) (old mid new : Feeding) (a b : List ℕ) (t u : List Timed)
    → HasTold arrival old a t mid → HasTold arrival mid b u new → HasTold arrival old (a ++ b) (t ++ u) new

-- a call: its arrival, the bytes that it took, the items in them, and the state after it
pub record Fed : Type 0 where
  pub arrival : ℕ
  pub bytes : List ℕ
  pub found : List Found
  pub after : Feeding

-- calls in order
abbrev pub AreFed : Feeding → List Fed → Type 0
AreFed before [] = ⊤
AreFed before (one ∷ more) = HasFed one.arrival before one.bytes one.found one.after × AreFed one.after more

abbrev pub last_fed : Feeding → List Fed → Feeding
last_fed before [] = before
last_fed before (one ∷ more) = last_fed one.after more

-- the bytes that calls took, and the items in them
abbrev pub bytes_in : List Fed → List ℕ
bytes_in calls = flat_map (λ (c : Fed). c.bytes) calls

abbrev pub items_in : List Fed → List Found
items_in calls = flat_map (λ (c : Fed). c.found) calls

-- The items of all calls, and then those at the end of the source, are the items of the whole source.
abbrev pub FeedsTheWhole : Type 0
FeedsTheWhole = (asked : Option Format) (manner : Manner) (calls : List Fed)
    → AreFed (nothing_fed asked manner) calls
    → items_in calls ++ awaited (last_fed (nothing_fed asked manner) calls).reader []
    ≡ items_as asked (bytes_in calls)

-- The same if a source is closed between the calls: the items are those of both sources.
abbrev pub FeedsBoth : Type 0
FeedsBoth = (asked : Option Format) (manner : Manner) (calls more : List Fed) (closed : Feeding)
    → AreFed (nothing_fed asked manner) calls
    → HasClosedFeed (last_fed (nothing_fed asked manner) calls) closed → AreFed closed more
    → items_in calls ++ (items_in more ++ awaited (last_fed closed more).reader [])
    ≡ items_as asked (bytes_in calls) ++ items_as asked (bytes_in more)
