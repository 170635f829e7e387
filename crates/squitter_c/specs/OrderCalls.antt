-- Calls of an order.
use Rattle.std.specs.Prelude.{◌≡◌, ◌≤◌, ◌<◌, ◌⊎◌, ℕ, Bool, false, if◌then◌else◌, true, List, [], Option, None, Some, length, take}
use Rattle.sq_feed.specs.Orders.{HasFlushed, HasSorted, Sorting, is_due, nothing_sorted}
use Rattle.squitter_c.specs.declared.faults.Fault.{Fault}
use Rattle.squitter_c.specs.declared.faults.Reason.TheVariants as reasons
use Rattle.squitter_c.specs.Faults.{fault_of, none}
use Rattle.squitter_c.specs.declared.log_loop.Done.{Done}
use Rattle.squitter_c.specs.FeedCalls.{IsFilled, squitters_of}

-- an order that holds nothing, or the fault if the block is too small
abbrev pub IsOrderMade : (reorder size : ℕ) → (made : Option Sorting) → Fault → Type 0
IsOrderMade reorder size (Some order) fault =
    (order ≡ nothing_sorted reorder) × (536 ≤ size) × (fault ≡ none)
IsOrderMade reorder size None fault = fault ≡ fault_of reasons.Memory

-- The order took squitters, and stored those that were due. If both arrays have room for one more, it took all, and
-- none is due; or it is full.
pub record HasTakenInOrder (old new : Sorting) (moments : List ℕ) (frames : List (List ℕ))
    (moments_were stored : List ℕ) (frames_were stored_frames : List (List ℕ)) (done : Done) (is_full : Bool)
    : Type 0 where
  pub taken : (done.taken ≤ length moments) × (done.taken ≤ length frames)
  pub given : HasSorted old (squitters_of (take done.taken moments) (take done.taken frames))
      (squitters_of (take done.written stored) (take done.written stored_frames)) new
  pub some : is_full ≡ false → 0 < length moments → 0 < length frames → 0 < length stored → 0 < length stored_frames
      → (0 < done.taken) ⊎ (0 < done.written)
  pub all : is_full ≡ false → done.written < length stored → done.written < length stored_frames
      → ((done.taken ≡ length moments) ⊎ (done.taken ≡ length frames))
      × (is_due new.reorder new.latest new.held ≡ false)
  pub full : is_full ≡ true → (done.taken < length moments) × (done.taken < length frames)
      × (is_due new.reorder new.latest new.held ≡ false)
  pub moments_filled : IsFilled moments_were stored done.written
  pub frames_filled : IsFilled frames_were stored_frames done.written

-- The first squitters that were held were stored. If both arrays have room for one more, none is held.
pub record HasGivenHeld (old new : Sorting) (moments_were stored : List ℕ) (frames_were stored_frames : List (List ℕ))
    (done : Done) : Type 0 where
  pub none_taken : done.taken ≡ 0
  pub given : HasFlushed old (squitters_of (take done.written stored) (take done.written stored_frames)) new
  pub all : done.written < length stored → done.written < length stored_frames → new.held ≡ []
  pub moments_filled : IsFilled moments_were stored done.written
  pub frames_filled : IsFilled frames_were stored_frames done.written

-- the result of taking squitters, or the fault if there is no order
abbrev pub IsOrderTaken : (old new : Option Sorting) → (moments : List ℕ) → (frames : List (List ℕ))
    → (moments_were stored : List ℕ) → (frames_were stored_frames : List (List ℕ)) → (before after : Done) → Fault
    → Type 0
IsOrderTaken (Some k) new moments frames moments_were stored frames_were stored_frames before after fault =
    (next : Sorting) × (is_full : Bool) × (new ≡ Some next)
    × HasTakenInOrder k next moments frames moments_were stored frames_were stored_frames after is_full
    × (fault ≡ if is_full then fault_of reasons.Memory else none)
IsOrderTaken None new moments frames moments_were stored frames_were stored_frames before after fault =
    (new ≡ None) × (stored ≡ moments_were) × (stored_frames ≡ frames_were) × (after ≡ before)
    × (fault ≡ fault_of reasons.NoTracker)

-- the result of a flush, or the fault if there is no order
abbrev pub IsOrderFlushed : (old new : Option Sorting) → (moments_were stored : List ℕ)
    → (frames_were stored_frames : List (List ℕ)) → (before after : Done) → Fault → Type 0
IsOrderFlushed (Some k) new moments_were stored frames_were stored_frames before after fault =
    (next : Sorting) × (new ≡ Some next)
    × HasGivenHeld k next moments_were stored frames_were stored_frames after × (fault ≡ none)
IsOrderFlushed None new moments_were stored frames_were stored_frames before after fault =
    (new ≡ None) × (stored ≡ moments_were) × (stored_frames ≡ frames_were) × (after ≡ before)
    × (fault ≡ fault_of reasons.NoTracker)

-- a count of an order, or the fault if there is no order
abbrev pub IsOrderCounted : (Sorting → ℕ) → Option Sorting → (was is : ℕ) → Fault → Type 0
IsOrderCounted count (Some k) was is fault = (is ≡ count k) × (fault ≡ none)
IsOrderCounted count None was is fault = (is ≡ was) × (fault ≡ fault_of reasons.NoTracker)

abbrev pub held_count : Sorting → ℕ
held_count k = length k.held

abbrev pub late_count : Sorting → ℕ
late_count k = k.late

-- The order lies in another block, or in its own if that is too small.
abbrev pub IsOrderGrown : (old new : Option Sorting) → Fault → Type 0
IsOrderGrown (Some k) new fault = (new ≡ Some k) × ((fault ≡ none) ⊎ (fault ≡ fault_of reasons.Memory))
IsOrderGrown None new fault = (new ≡ None) × (fault ≡ fault_of reasons.NoTracker)
