-- A call has at most one result, unless memory runs out: two results for the same `out` before the call are the same.
use Rattle.std.specs.Prelude.{◌≡◌, ◌≢◌, ◌↔◌, ◌==◌, ◌∷◌, [], ℕ, List, Option, Some, Result, Err, filter}
use Rattle.sq_angle.specs.declared.position.Position.{Position}
use Rattle.sq_bits.specs.declared.frame.Frame.{Frame}
use Rattle.sq_message.specs.declared.squitter.Squitter.{Squitter}
use Rattle.sq_message.specs.Parts.{squitter_parts}
use Rattle.sq_message.specs.Places.{IsPosition}
use Rattle.squitter_c.specs.declared.faults.Fault.{Fault}
use Rattle.squitter_c.specs.declared.faults.Reason.TheVariants as reasons
use Rattle.squitter_c.specs.declared.heard.PlainHeard.{PlainHeard}
use Rattle.squitter_c.specs.declared.plain.PlainPosition.{PlainPosition}
use Rattle.squitter_c.specs.Faults.{fault_of}
use Rattle.squitter_c.specs.Frames.{frame_of}
use Rattle.squitter_c.specs.Seal.{Kept}
use Rattle.sq_track.specs.declared.heard.Heard.{Heard}
use Rattle.sq_track.specs.declared.heard.TrackFault.{TrackFault}
use Rattle.sq_track.specs.declared.heard.TrackFault.TheVariants.{Memory}
use Rattle.sq_track.specs.Held.{Held, StandsFor, present_of, settings}
use Rattle.sq_track.specs.History.{History}
use Rattle.squitter_c.specs.Trackers.{IsHeardThere, IsMade, IsMadeAt, IsReplied, IsTrackerHeard, tracker_in}

-- the fault of an allocation that failed
abbrev pub no_memory : Fault
no_memory = fault_of reasons.Memory

-- two new trackers with the same settings are the same
abbrev pub OneMade : Type 0
OneMade = (limit window : ℕ) (site : Option Position) (x y : Option Kept) (fault why : Fault)
    → IsMade limit window site x fault → IsMade limit window site y why → fault ≢ no_memory → why ≢ no_memory
    → (tracker_in x ≡ tracker_in y) × (fault ≡ why)

-- two new trackers with the same settings and site are the same
abbrev pub OneMadeAt : Type 0
OneMadeAt = (limit window : ℕ) (plain : PlainPosition) (x y : Option Kept) (fault why : Fault)
    → IsMadeAt limit window plain x fault → IsMadeAt limit window plain y why → fault ≢ no_memory → why ≢ no_memory
    → (tracker_in x ≡ tracker_in y) × (fault ≡ why)

-- a frame has at most one result, and one history then represents both trackers
abbrev pub OneHearing : Type 0
OneHearing = (moment : ℕ) (frame : Frame) (t u v : Kept) (old new other : PlainHeard) (fault why : Fault)
    → IsTrackerHeard moment frame (Some t) (Some u) old new fault
    → IsTrackerHeard moment frame (Some t) (Some v) old other why
    → fault ≢ no_memory → why ≢ no_memory → (h : History) → StandsFor t.tracker h → (new ≡ other) × (fault ≡ why)
    × ((later : History) × StandsFor u.tracker later × StandsFor v.tracker later)

-- in arrays with one frame, the result is that of the single call
abbrev pub OneOfMany : Type 0
OneOfMany = (moment : ℕ) (frame : List ℕ) (held after : Option Kept) (old new : PlainHeard) (fault : Fault)
    → IsHeardThere (moment ∷ []) (frame ∷ []) 0 held after old new fault
    ↔ IsTrackerHeard moment (frame_of frame) held after old new fault

-- What `hear` preserves: the settings, and after an error all of the tracker. Memory runs out only at a position of an
-- address that is not present.
abbrev pub HearingKeeps : Type 0
HearingKeeps = (moment : ℕ) (q : Squitter) (old new : Held) (reply : Result Heard TrackFault)
    → IsReplied moment q old new reply
    → (settings new ≡ settings old) × ((fault : TrackFault) → reply ≡ Err fault → new ≡ old)
    × (reply ≡ Err Memory → IsPosition (squitter_parts q).me
    × (filter (λ entry. entry.0 == (squitter_parts q).address) (present_of old) ≡ []))
