-- The complete result of a call of a feed that left room.
use Rattle.std.specs.Prelude.{◌≡◌, ◌+◌, ◌<◌, ◌≤◌, ℕ, List, Option, Some, length, take}
use Rattle.sq_feed.specs.Feeds.{HasTold, lines_of}
use Rattle.sq_feed.specs.declared.message.Timed.{Timed}
use Rattle.squitter_c.specs.declared.faults.Fault.{Fault}
use Rattle.squitter_c.specs.Faults.{none}
use Rattle.squitter_c.specs.Seal.{KeptFeed}
use Rattle.squitter_c.specs.declared.log_loop.Done.{Done}
use Rattle.squitter_c.specs.FeedCalls.{IsFeedTaken, IsFeedTextTaken, squitters_of}

-- If both arrays have room for one more, they hold the squitters of the whole piece.
abbrev pub AllGiven : Type 0
AllGiven = (arrival : ℕ) (k : KeptFeed) (new : Option KeptFeed) (piece moments_were moments : List ℕ)
    (frames_were frames : List (List ℕ)) (before after : Done) (fault : Fault)
    → IsFeedTaken arrival (Some k) new piece moments_were moments frames_were frames before after fault
    → after.written < length moments → after.written < length frames
    → (next : KeptFeed) × (new ≡ Some next) × (after.taken ≡ length piece) × (fault ≡ none)
    × HasTold arrival k piece (squitters_of (take after.written moments) (take after.written frames)) next

-- If the buffer has room for one more line, it holds the lines of the whole piece.
abbrev pub AllWritten : Type 0
AllWritten = (arrival : ℕ) (k : KeptFeed) (new : Option KeptFeed) (piece was is : List ℕ) (before after : Done)
    (fault : Fault) → IsFeedTextTaken arrival (Some k) new piece was is before after fault
    → after.written + 50 ≤ length is
    → (next : KeptFeed) × (new ≡ Some next) × (after.taken ≡ length piece) × (fault ≡ none)
    × ((told : List Timed) × HasTold arrival k piece told next × (take after.written is ≡ lines_of told))
