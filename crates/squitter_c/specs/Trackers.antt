-- Calls of a tracker that C holds.
use Rattle.std.specs.Prelude.{◌≡◌, ◌≢◌, ◌≤◌, ◌⊎◌, ◌==◌, ⊤, ℕ, List, [], Option, Some, None, Result, Ok, Err, OnErr}
use Rattle.std.specs.Prelude.{find, option_map, slice_index, slice_index_or}
use Rattle.sq_angle.specs.declared.position.Position.{Position}
use Rattle.sq_bits.specs.declared.frame.Frame.{Frame}
use Rattle.sq_message.specs.declared.squitter.FrameFault.{FrameFault}
use Rattle.sq_message.specs.declared.squitter.Squitter.{Squitter}
use Rattle.sq_message.specs.Parts.{squitter_parts}
use Rattle.sq_message.specs.Places.{IsPosition}
use Rattle.sq_message.specs.Spelling.{IsReading}
use Rattle.squitter_c.specs.declared.faults.Fault.{Fault}
use Rattle.squitter_c.specs.declared.faults.Reason.{Reason}
use Rattle.squitter_c.specs.declared.faults.Reason.TheVariants as reasons
use Rattle.squitter_c.specs.declared.heard.PlainHeard.{PlainHeard}
use Rattle.squitter_c.specs.declared.plain.PlainPosition.{PlainPosition}
use Rattle.squitter_c.specs.Faults.{Tells, fault_of, none, of_frames}
use Rattle.squitter_c.specs.Frames.{frame_of}
use Rattle.squitter_c.specs.Heard.{IsPlainHeard}
use Rattle.squitter_c.specs.Plain.{IsOfDegrees, PlainIsPosition}
use Rattle.sq_text.specs.declared.faults.LineFault.TheVariants as lines
use Rattle.sq_log.specs.States.{HasHeardNothing}
use Rattle.squitter_c.specs.Seal.{Kept}
use Rattle.squitter_c.specs.Sizes.{IsRoomFor}
use Rattle.sq_track.specs.declared.heard.Heard.{Heard}
use Rattle.sq_track.specs.declared.heard.TrackFault.{TrackFault}
use Rattle.sq_track.specs.declared.heard.TrackFault.TheVariants.{MomentBack, Full, Memory, NoLimit}
use Rattle.sq_track.specs.ByEntries.{IsHeardByEntries}
use Rattle.sq_track.specs.Held.{Held, StandsFor, made_with, present_of, settings}
use Rattle.sq_track.specs.History.{History}
use Rattle.sq_track.specs.Replies.{IsReply, history_after}

-- the tracker of a listener
abbrev pub tracker_in : Option Kept → Option Held
tracker_in held = option_map (λ k. k.tracker) held

-- a new tracker with these settings, or the reason there is none: `limit` is 0, or memory ran out
abbrev pub IsMade : (limit window : ℕ) → Option Position → (made : Option Kept) → Fault → Type 0
IsMade limit window site (Some k) fault =
    (limit ≢ 0) × StandsFor k.tracker [] × (settings k.tracker ≡ made_with limit window site) × (fault ≡ none)
    × HasHeardNothing k.log
IsMade limit window site None fault = ((limit ≡ 0) × (fault ≡ fault_of reasons.NoLimit))
    ⊎ ((limit ≢ 0) × (fault ≡ fault_of reasons.Memory))

-- a tracker is made only in a block that is large enough for its limit
abbrev pub IsMadeIn : (limit size : ℕ) → (made : Option Kept) → Type 0
IsMadeIn limit size (Some k) = (bytes : ℕ) × IsRoomFor limit bytes × (bytes ≤ size)
IsMadeIn limit size None = ⊤

-- a new tracker with a site, or the reason there is none: first, an invalid site
abbrev pub IsMadeAt : (limit window : ℕ) → PlainPosition → (made : Option Kept) → Fault → Type 0
IsMadeAt limit window plain made fault =
    ((¬ (PlainIsPosition plain)) × (made ≡ None) × (fault ≡ fault_of reasons.NoPosition))
    ⊎ ((site : Position) × IsOfDegrees plain site × IsMade limit window (Some site) made fault)

-- why a tracker refuses a squitter, as a reason
abbrev pub of_tracker : TrackFault → Reason
of_tracker (MomentBack last) = reasons.Line (lines.MomentBack last)
of_tracker Full = reasons.Line lines.Full
of_tracker Memory = reasons.Memory
of_tracker NoLimit = reasons.NoLimit

-- The effect of a squitter on a tracker. For each history that the tracker represents, this is the reply, and the
-- tracker then represents the history after it. Any contents of the tracker also give the reply, and the contents after
-- it. A refusal changes nothing. Only a position of an address that is not present may need
-- memory.
pub record IsReplied (moment : ℕ) (q : Squitter) (old new : Held) (reply : Result Heard TrackFault) : Type 0 where
  pub by_history : (h : History) → StandsFor old h → IsReply (settings old) h moment q reply
  pub after : (h : History) → StandsFor old h → StandsFor new (history_after h moment q reply)
  pub by_entries : IsHeardByEntries moment q old new reply
  pub refused : OnErr reply (new ≡ old)
  pub settings : settings new ≡ settings old
  pub memory : reply ≡ Err Memory → IsPosition (squitter_parts q).me
      × (find (λ entry. entry.0 == (squitter_parts q).address) (present_of old) ≡ None)

-- the result for a frame that was read as this squitter or fault
abbrev pub IsReadHeard :
    (moment : ℕ) → Result Squitter FrameFault → (old new : Held) → (was is : PlainHeard) → Fault → Type 0
IsReadHeard moment (Ok q) old new was is fault = (reply : Result Heard TrackFault)
    × IsReplied moment q old new reply × Tells IsPlainHeard of_tracker reply was is fault
IsReadHeard moment (Err reason) old new was is fault =
    (new ≡ old) × (is ≡ was) × (fault ≡ fault_of (of_frames reason))

-- the result for a frame; the fault of the frame comes first
abbrev pub IsHeardBy : (moment : ℕ) → Frame → (old new : Held) → (was is : PlainHeard) → Fault → Type 0
IsHeardBy moment frame old new was is fault =
    (answer : Result Squitter FrameFault) × IsReading frame answer × IsReadHeard moment answer old new was is fault

-- the result for a frame, or the fault if there is no tracker
abbrev pub IsTrackerHeard :
    (moment : ℕ) → Frame → (old new : Option Kept) → (was is : PlainHeard) → Fault → Type 0
IsTrackerHeard moment frame (Some k) new was is fault =
    (after : Held) × (new ≡ Some (record k { tracker = after })) × IsHeardBy moment frame k.tracker after was is fault
IsTrackerHeard moment frame None new was is fault =
    (new ≡ None) × (is ≡ was) × (fault ≡ fault_of reasons.NoTracker)

-- the result for the frame at index k, at its timestamp
abbrev pub IsHeardThere : (moments : List ℕ) → (frames : List (List ℕ)) → (k : ℕ) → (old new : Option Kept)
    → (was is : PlainHeard) → Fault → Type 0
IsHeardThere moments frames k old new was is fault = (frame : List ℕ)
    → IsTrackerHeard (slice_index moments k) (frame_of (slice_index_or frames k frame)) old new was is fault

-- the present addresses, each with the timestamp of its newest position, the longest silent first; none without a
-- tracker
abbrev pub present_in : Option Kept → List (ℕ × ℕ)
present_in None = []
present_in (Some k) = present_of k.tracker
