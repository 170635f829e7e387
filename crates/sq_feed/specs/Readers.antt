-- A source of a known or an unknown format, and what comes after it.
use Rattle.std.specs.Prelude.{◌≡◌, ◌==◌, ◌<◌, ◌++◌, ◌+◌, ◌*◌, ◌⊎◌, ⊤, ℕ, List, [], ◌∷◌, Option, Some, None, drop, length}
use Rattle.std.specs.Prelude.{if◌then◌else◌}
use Rattle.sq_feed.specs.declared.machine.Format.{Format}
use Rattle.sq_feed.specs.declared.machine.Format.TheVariants.{Log}
use Rattle.sq_feed.specs.declared.message.Found.{Found}
use Rattle.sq_feed.specs.declared.message.Found.TheVariants.{Damage, Foreign}
use Rattle.sq_feed.specs.declared.reader.Stage.{Stage}
use Rattle.sq_feed.specs.declared.reader.Stage.TheVariants.{Finding, Reading, Replaying, Ending, Naming, Over}
use Rattle.sq_feed.specs.Finding.{Finds, any_found, finds_to_come, items_from, limit, nothing_seen}
use Rattle.sq_feed.specs.Machines.{Begins, dropped, new_machine, to_come}

-- The state: the format that is asked for, the stage of reading, the finder of the format with all bytes that it has
-- seen, how many of these the machine has read, and the machine that reads the source.
pub record Reads : Type 0 where
  pub asked : Option Format
  pub stage : Stage
  pub finder : Finds
  pub at : ℕ
  pub machine : Begins

-- the items of a whole source, by the format that is asked for; without one, its first bytes show the format
abbrev pub items_as : Option Format → List ℕ → List Found
items_as (Some format) bytes = items_from format bytes
items_as None bytes = any_found bytes

-- the first bytes of the source that the machine has not read
abbrev pub unread : Reads → List ℕ
unread reads = drop reads.at reads.finder.held

abbrev pub reads_at : Stage → Reads → List ℕ → List Found
reads_at Finding reads bytes = finds_to_come reads.finder bytes
reads_at Reading reads bytes = to_come reads.machine bytes
reads_at Replaying reads bytes = to_come reads.machine (unread reads ++ bytes)
reads_at Ending reads bytes = to_come reads.machine (unread reads) ++ items_as reads.asked bytes
reads_at (Naming stranger) reads bytes = Foreign stranger ∷ items_as reads.asked bytes
reads_at Over reads bytes = []

-- the items that wait to be given, and those of the bytes to come
abbrev pub awaited : Reads → List ℕ → List Found
awaited reads bytes = reads_at reads.stage reads bytes

-- the number of calls that are needed without a byte, at most
abbrev pub calls_at : Stage → Reads → ℕ
calls_at Finding reads = 0
calls_at Reading reads = 0
calls_at Replaying reads = length (unread reads) + 1
calls_at Ending reads = length (unread reads) + 1
calls_at (Naming stranger) reads = 1
calls_at Over reads = 0

abbrev pub calls_left : Reads → ℕ
calls_left reads = calls_at reads.stage reads

-- the most calls that bytes can make necessary: one that shows the format has all bytes before it read again
abbrev pub calls_for : ℕ → ℕ
calls_for count = 16386 * count

-- While the format is unknown, there is room for another byte.
abbrev pub HasRoomAt : Stage → Finds → Type 0
HasRoomAt Finding finder = length finder.held < limit
HasRoomAt Reading finder = ⊤
HasRoomAt Replaying finder = ⊤
HasRoomAt Ending finder = ⊤
HasRoomAt (Naming stranger) finder = ⊤
HasRoomAt Over finder = ⊤

-- a reader before the first byte of its first source
abbrev pub new_reads : Option Format → Reads
new_reads (Some format) = record {
  asked = Some format;
  stage = Reading;
  finder = nothing_seen;
  at = 0;
  machine = new_machine format;
}
new_reads None = record {
  asked = None;
  stage = Finding;
  finder = nothing_seen;
  at = 0;
  machine = new_machine Log;
}

-- a reader at the start of a source
pub record IsNew (asked : Option Format) (reads : Reads) : Type 0 where
  pub same : reads.asked ≡ asked
  pub awaits : (bytes : List ℕ) → awaited reads bytes ≡ items_as asked bytes

-- The source ended: its last items wait to be given, and another source comes after them.
pub record HasClosed (old new : Reads) : Type 0 where
  pub same : new.asked ≡ old.asked
  pub awaits : (bytes : List ℕ) → awaited new bytes ≡ awaited old [] ++ items_as old.asked bytes

abbrev pub IsEnding : Stage → Type 0
IsEnding Finding = ⊥
IsEnding Reading = ⊥
IsEnding Replaying = ⊥
IsEnding Ending = ⊤
IsEnding (Naming stranger) = ⊤
IsEnding Over = ⊥

-- The source ended: its last items wait, or all are given and the reader is at the start of another source.
abbrev pub HasEnded : Reads → Type 0
HasEnded reads = IsEnding reads.stage ⊎ (IsNew reads.asked reads × (calls_left reads ≡ 0))

-- ---- a lost source

-- one damage for bytes that were not read
abbrev pub dropped_at : Stage → Reads → List Found
dropped_at Finding reads = if length reads.finder.held == 0 then [] else Damage ∷ []
dropped_at Reading reads = dropped reads.machine
dropped_at Replaying reads = Damage ∷ []
dropped_at Ending reads = Damage ∷ []
dropped_at (Naming stranger) reads = Damage ∷ []
dropped_at Over reads = []

abbrev pub lost_items : Reads → List Found
lost_items reads = dropped_at reads.stage reads

-- ---- the format

-- the format of the source, once it is known
abbrev pub format_at : Stage → Reads → Option Format
format_at Finding reads = None
format_at Reading reads = Some reads.machine.format
format_at Replaying reads = Some reads.machine.format
format_at Ending reads = Some reads.machine.format
format_at (Naming stranger) reads = None
format_at Over reads = None
