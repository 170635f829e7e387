-- The complete result of a call of an order that left room.
use Rattle.std.specs.Prelude.{◌≡◌, ◌<◌, ℕ, List, [], Option, Some, length, take}
use Rattle.sq_feed.specs.Orders.{HasSorted, Sorting}
use Rattle.squitter_c.specs.declared.faults.Fault.{Fault}
use Rattle.squitter_c.specs.Faults.{none}
use Rattle.squitter_c.specs.declared.log_loop.Done.{Done}
use Rattle.squitter_c.specs.FeedCalls.{squitters_of}
use Rattle.squitter_c.specs.OrderCalls.{IsOrderFlushed, IsOrderTaken}

-- After code 0, if both arrays have room for one more, all squitters were taken, and those that were due were stored.
abbrev pub AllSorted : Type 0
AllSorted = (k : Sorting) (new : Option Sorting) (moments moments_were stored : List ℕ)
    (frames frames_were stored_frames : List (List ℕ)) (before after : Done) (fault : Fault)
    → IsOrderTaken (Some k) new moments frames moments_were stored frames_were stored_frames before after fault
    → fault ≡ none → length moments ≡ length frames → after.written < length stored
    → after.written < length stored_frames
    → (next : Sorting) × (new ≡ Some next)
    × HasSorted k (squitters_of moments frames)
    (squitters_of (take after.written stored) (take after.written stored_frames)) next

-- If both arrays have room for one more, all squitters that were held were stored.
abbrev pub AllFlushed : Type 0
AllFlushed = (k : Sorting) (new : Option Sorting) (moments_were stored : List ℕ)
    (frames_were stored_frames : List (List ℕ)) (before after : Done) (fault : Fault)
    → IsOrderFlushed (Some k) new moments_were stored frames_were stored_frames before after fault
    → after.written < length stored → after.written < length stored_frames
    → (next : Sorting) × (new ≡ Some next) × (fault ≡ none) × (next.held ≡ [])
    × (squitters_of (take after.written stored) (take after.written stored_frames) ≡ k.held)
