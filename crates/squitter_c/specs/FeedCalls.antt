-- Calls of a feed.
use Rattle.std.specs.Prelude.{◌≡◌, ◌==◌, ◌≤◌, ◌<◌, ◌+◌, ◌/◌, ◌%◌, ◌⊎◌, ℕ, Bool, true, List, [], ◌∷◌, Option, None, Some, drop, if◌then◌else◌, length, take}
use Rattle.sq_feed.specs.declared.machine.Format.{Format}
use Rattle.sq_feed.specs.declared.machine.Format.TheVariants as formats
use Rattle.sq_feed.specs.declared.manner.Manner.{Manner}
use Rattle.sq_feed.specs.Ears.{Hears}
use Rattle.sq_feed.specs.Feeds.{Feeding, HasClosedFeed, HasLost, HasTold, HasToldLast, format_of_source, lines_of}
use Rattle.sq_feed.specs.Feeds.{nothing_fed, steps_left}
use Rattle.sq_feed.specs.Times.{is_ahead_of_arrivals}
use Rattle.sq_feed.specs.declared.message.Stranger.{Stranger}
use Rattle.sq_feed.specs.declared.message.Timed.{Timed}
use Rattle.sq_feed.specs.declared.message.Stranger.TheVariants as strangers
use Rattle.squitter_c.specs.declared.faults.Fault.{Fault}
use Rattle.squitter_c.specs.declared.faults.Reason.TheVariants as reasons
use Rattle.squitter_c.specs.Faults.{fault_of, none}
use Rattle.squitter_c.specs.Seal.{KeptFeed}
use Rattle.squitter_c.specs.declared.feed_new.PlainCounts.{PlainCounts}
use Rattle.squitter_c.specs.declared.log_loop.Done.{Done}

-- 0 for Beast, 1 for AVR, 2 for CSV, 3 for a log
abbrev pub feed_format_number : Format → ℕ
feed_format_number formats.Beast = 0
feed_format_number formats.Avr = 1
feed_format_number formats.Csv = 2
feed_format_number formats.Log = 3

-- the number of a format, or 4 if the first bytes of the source show the format
abbrev pub feed_number : Option Format → ℕ
feed_number (Some format) = feed_format_number format
feed_number None = 4

abbrev pub IsFeedFormat : ℕ → Option Format → Type 0
IsFeedFormat number format = number ≡ feed_number format

-- the flags: 1 for a live source, 2 to ignore its clock, 4 for frames of all downlink formats
abbrev pub manner_of : ℕ → ℕ → ℕ → Manner
manner_of leap late flags = record {
  leap = leap;
  late = late;
  is_live = flags % 2 == 1;
  ignores_clock = flags / 2 % 2 == 1;
  all_formats = flags / 4 % 2 == 1;
}

-- a feed at the start of a source, or the fault: no format has the number, or the block is too small
abbrev pub IsFeedMade : (number leap late flags size : ℕ) → (made : Option KeptFeed) → Fault → Type 0
IsFeedMade number leap late flags size (Some feed) fault = (format : Option Format) × IsFeedFormat number format
    × (feed ≡ nothing_fed format (manner_of leap late flags)) × (20480 ≤ size) × (fault ≡ none)
IsFeedMade number leap late flags size None fault = ((4 < number) × (fault ≡ fault_of reasons.NoFormat))
    ⊎ ((number ≤ 4) × (fault ≡ fault_of reasons.Memory))

-- The first `count` elements of an array were written; the others are unchanged.
pub record IsFilled {X : Type 0} (was is : List X) (count : ℕ) : Type 0 where
  pub fits : count ≤ length is
  pub long : length is ≡ length was
  pub rest : drop count is ≡ drop count was

-- ---- squitters in arrays

-- squitters by their timestamps and frames, as many as there are of both
abbrev pub squitters_of : List ℕ → List (List ℕ) → List Timed
squitters_of [] frames = []
squitters_of (moment ∷ moments) [] = []
squitters_of (moment ∷ moments) (frame ∷ frames) =
    record { moment = moment; frame = frame } ∷ squitters_of moments frames

-- The feed took bytes, and stored their squitters. If both arrays have room for one more, it took all bytes, and no
-- squitter waits.
pub record HasTakenFrames (arrival : ℕ) (old new : Feeding) (piece moments_were moments : List ℕ)
    (frames_were frames : List (List ℕ)) (done : Done) : Type 0 where
  pub taken : done.taken ≤ length piece
  pub given : HasTold arrival old (take done.taken piece)
      (squitters_of (take done.written moments) (take done.written frames)) new
  pub some : 0 < length piece → 0 < length moments → 0 < length frames → (0 < done.taken) ⊎ (0 < done.written)
  pub all : done.written < length moments → done.written < length frames
      → (done.taken ≡ length piece) × (steps_left new ≡ 0)
  pub moments_filled : IsFilled moments_were moments done.written
  pub frames_filled : IsFilled frames_were frames done.written

-- The source ended, and its last squitters were stored. If both arrays have room for one more, these are all, with
-- those of rows that waited.
pub record HasEndedInFrames (arrival : ℕ) (old new : Feeding) (moments_were moments : List ℕ)
    (frames_were frames : List (List ℕ)) (done : Done) : Type 0 where
  pub closed : Feeding
  pub ended : HasClosedFeed old closed
  pub taken : done.taken ≡ 0
  pub settled : Bool
  pub given : HasToldLast settled arrival closed
      (squitters_of (take done.written moments) (take done.written frames)) new
  pub all : done.written < length moments → done.written < length frames
      → (settled ≡ true) × (steps_left new ≡ 0)
  pub moments_filled : IsFilled moments_were moments done.written
  pub frames_filled : IsFilled frames_were frames done.written

-- the result of taking a piece, or the fault if there is no feed
abbrev pub IsFeedTaken : (arrival : ℕ) → (old new : Option KeptFeed) → (piece moments_were moments : List ℕ)
    → (frames_were frames : List (List ℕ)) → (before after : Done) → Fault → Type 0
IsFeedTaken arrival (Some k) new piece moments_were moments frames_were frames before after fault =
    (next : KeptFeed) × (new ≡ Some next)
    × HasTakenFrames arrival k next piece moments_were moments frames_were frames after × (fault ≡ none)
IsFeedTaken arrival None new piece moments_were moments frames_were frames before after fault =
    (new ≡ None) × (moments ≡ moments_were) × (frames ≡ frames_were) × (after ≡ before)
    × (fault ≡ fault_of reasons.NoTracker)

-- the result of ending a source, or the fault if there is no feed
abbrev pub IsFeedFinished : (arrival : ℕ) → (old new : Option KeptFeed) → (moments_were moments : List ℕ)
    → (frames_were frames : List (List ℕ)) → (before after : Done) → Fault → Type 0
IsFeedFinished arrival (Some k) new moments_were moments frames_were frames before after fault =
    (next : KeptFeed) × (new ≡ Some next)
    × HasEndedInFrames arrival k next moments_were moments frames_were frames after × (fault ≡ none)
IsFeedFinished arrival None new moments_were moments frames_were frames before after fault =
    (new ≡ None) × (moments ≡ moments_were) × (frames ≡ frames_were) × (after ≡ before)
    × (fault ≡ fault_of reasons.NoTracker)

-- ---- lines in a buffer

-- The feed took bytes, and wrote the lines of their squitters. If there is room for one more line, it took all bytes,
-- and no line waits.
pub record HasTakenText (arrival : ℕ) (old new : Feeding) (piece was is : List ℕ) (done : Done) : Type 0 where
  pub taken : done.taken ≤ length piece
  pub told : List Timed
  pub given : HasTold arrival old (take done.taken piece) told new
  pub written : take done.written is ≡ lines_of told
  pub some : 0 < length piece → 50 ≤ length is → (0 < done.taken) ⊎ (0 < done.written)
  pub all : done.written + 50 ≤ length is → (done.taken ≡ length piece) × (steps_left new ≡ 0)
  pub filled : IsFilled was is done.written

-- The source ended, and its last lines were written. If there is room for one more line, these are all, with those of
-- rows that waited.
pub record HasEndedInText (arrival : ℕ) (old new : Feeding) (was is : List ℕ) (done : Done) : Type 0 where
  pub closed : Feeding
  pub ended : HasClosedFeed old closed
  pub taken : done.taken ≡ 0
  pub settled : Bool
  pub told : List Timed
  pub given : HasToldLast settled arrival closed told new
  pub written : take done.written is ≡ lines_of told
  pub all : done.written + 50 ≤ length is → (settled ≡ true) × (steps_left new ≡ 0)
  pub filled : IsFilled was is done.written

-- the result of taking a piece, or the fault if there is no feed
abbrev pub IsFeedTextTaken : (arrival : ℕ) → (old new : Option KeptFeed) → (piece was is : List ℕ)
    → (before after : Done) → Fault → Type 0
IsFeedTextTaken arrival (Some k) new piece was is before after fault =
    (next : KeptFeed) × (new ≡ Some next) × HasTakenText arrival k next piece was is after × (fault ≡ none)
IsFeedTextTaken arrival None new piece was is before after fault =
    (new ≡ None) × (is ≡ was) × (after ≡ before) × (fault ≡ fault_of reasons.NoTracker)

-- the result of ending a source, or the fault if there is no feed
abbrev pub IsFeedTextFinished : (arrival : ℕ) → (old new : Option KeptFeed) → (was is : List ℕ)
    → (before after : Done) → Fault → Type 0
IsFeedTextFinished arrival (Some k) new was is before after fault =
    (next : KeptFeed) × (new ≡ Some next) × HasEndedInText arrival k next was is after × (fault ≡ none)
IsFeedTextFinished arrival None new was is before after fault =
    (new ≡ None) × (is ≡ was) × (after ≡ before) × (fault ≡ fault_of reasons.NoTracker)

-- ---- other calls

-- the result of a lost connection, or the fault if there is no feed
abbrev pub IsFeedLost : (old new : Option KeptFeed) → Fault → Type 0
IsFeedLost (Some k) new fault = (next : KeptFeed) × (new ≡ Some next) × HasLost k next × (fault ≡ none)
IsFeedLost None new fault = (new ≡ None) × (fault ≡ fault_of reasons.NoTracker)

-- the counts of a feed as plain numbers
pub record AreCounts (ear : Hears) (plain : PlainCounts) : Type 0 where
  pub found : plain.found ≡ ear.counts.found
  pub written : plain.written ≡ ear.counts.written
  pub mode_ac : plain.mode_ac ≡ ear.counts.mode_ac
  pub multilaterated : plain.multilaterated ≡ ear.counts.multilaterated
  pub receiver_ids : plain.receiver_ids ≡ ear.counts.receiver_ids
  pub damaged : plain.damaged ≡ ear.counts.damaged
  pub aside : plain.aside ≡ ear.counts.aside
  pub formats : plain.formats ≡ ear.counts.formats
  pub breaks : plain.breaks ≡ ear.dates.breaks
  pub ahead : plain.ahead ≡ (if is_ahead_of_arrivals ear.times then 1 else 0)

-- the counts of a feed, or the fault if there is no feed
abbrev pub IsFeedCounted : Option KeptFeed → (was is : PlainCounts) → Fault → Type 0
IsFeedCounted (Some k) was is fault = AreCounts k.ear is × (fault ≡ none)
IsFeedCounted None was is fault = (is ≡ was) × (fault ≡ fault_of reasons.NoTracker)

-- ---- the format of a source

abbrev pub stranger_number : Stranger → ℕ
stranger_number strangers.Sbs = 5
stranger_number strangers.Tar = 6
stranger_number strangers.Packed = 7
stranger_number strangers.Utf16 = 8
stranger_number strangers.Json = 9
stranger_number strangers.NoFrame = 10
stranger_number strangers.Semicolons = 11
stranger_number strangers.Tabs = 12
stranger_number strangers.NoTime = 13
stranger_number strangers.NoRawmsg = 14
stranger_number strangers.NoSeconds = 15
stranger_number strangers.NoNames = 16

-- the number of a format, or of a source without a format; 4 while neither is known
abbrev pub source_number : Option Format → Option Stranger → ℕ
source_number (Some format) stranger = feed_format_number format
source_number None (Some stranger) = stranger_number stranger
source_number None None = 4

-- the number of a feed's source, as far as it is known, or the fault if there is no feed
abbrev pub IsSourceNumber : Option KeptFeed → (was is : ℕ) → Fault → Type 0
IsSourceNumber (Some k) was is fault =
    (is ≡ source_number (format_of_source k) k.ear.stranger) × (fault ≡ none)
IsSourceNumber None was is fault = (is ≡ was) × (fault ≡ fault_of reasons.NoTracker)
