-- By what a tracker holds a frame has one result, and leaves one tracker.
use Rattle.std.proofs.Common.{◌≡◌, ◌≢◌, ◌∙◌, ℕ, Option, Some, Result, Ok, Err, ap, subst, sym}
use Rattle.sq_bits.specs.declared.frame.Frame.{Frame}
use Rattle.sq_message.specs.declared.squitter.FrameFault.{FrameFault}
use Rattle.sq_message.specs.declared.squitter.Squitter.{Squitter}
use Rattle.sq_message.proofs.One.{one_reading}
use Rattle.squitter_c.specs.declared.faults.Fault.{Fault}
use Rattle.squitter_c.specs.declared.heard.PlainHeard.{PlainHeard}
use Rattle.squitter_c.specs.Heard.{IsPlainHeard}
use Rattle.squitter_c.specs.OneTrackers.{no_memory}
use Rattle.squitter_c.specs.Seal.{Kept}
use Rattle.squitter_c.specs.TrackerLaws.{OneHeardByEntry, RestoredHearsAsSaved}
use Rattle.squitter_c.specs.Trackers.{IsHeardBy, IsReadHeard, IsTrackerHeard, of_tracker, tracker_in}
use Rattle.squitter_c.proofs.OneHeard.{one_heard}
use Rattle.squitter_c.proofs.OneTelling.{one_telling}
use Rattle.squitter_c.proofs.OneTrackers.{had_memory}
use Rattle.squitter_c.proofs.RestoredSavings.{restored_as_saved}
use Rattle.sq_track.specs.declared.heard.Heard.{Heard}
use Rattle.sq_track.specs.declared.heard.TrackFault.{TrackFault}
use Rattle.sq_track.specs.declared.heard.TrackFault.TheVariants.{Memory}
use Rattle.sq_track.specs.ByEntries.{IsHeardByEntries}
use Rattle.sq_track.specs.Held.{Held}
use Rattle.sq_track.proofs.Histories.ByEntries.{one_by_entries}

-- a reply by what a tracker holds, other than out of memory
abbrev Replied : (moment : ℕ) → Squitter → Held → Result Heard TrackFault → Type 0
Replied m q t reply = (new : Held) × IsHeardByEntries m q t new reply × (reply ≢ Err Memory)

one_replied : (m : ℕ) (q : Squitter) (t : Held) (r s : Result Heard TrackFault) → Replied m q t r → Replied m q t s
    → r ≡ s
one_replied m q t r s (u, r_is, had) (v, s_is, has) = (one_by_entries m q t u v r s had has r_is s_is).0

read_once : (m : ℕ) (answer : Result Squitter FrameFault) (t u v : Held) (old x y : PlainHeard) (f g : Fault)
    → f ≢ no_memory → g ≢ no_memory → IsReadHeard m answer t u old x f → IsReadHeard m answer t v old y g
    → (x ≡ y) × (f ≡ g) × (u ≡ v)
read_once m (Ok q) t u v old x y f g had has (r, r_is, r_told) (s, s_is, s_told) =
    let r_had = had_memory r old x f r_told had in
    let s_had = had_memory s old y g s_told has in
    let told = one_telling (Replied m q t) IsPlainHeard of_tracker (one_replied m q t) one_heard old x y f g
    (r, (u, r_is.by_entries, r_had), r_told) (s, (v, s_is.by_entries, s_had), s_told) in
    (told.0, told.1, (one_by_entries m q t u v r s r_had s_had r_is.by_entries s_is.by_entries).1)
read_once m (Err reason) t u v old x y f g had has (u_is, x_is, f_is) (v_is, y_is, g_is) =
    (x_is ∙ sym y_is, f_is ∙ sym g_is, u_is ∙ sym v_is)

heard_once : (m : ℕ) (frame : Frame) (t u v : Held) (old x y : PlainHeard) (f g : Fault)
    → f ≢ no_memory → g ≢ no_memory → IsHeardBy m frame t u old x f → IsHeardBy m frame t v old y g
    → (x ≡ y) × (f ≡ g) × (u ≡ v)
heard_once m frame t u v old x y f g had has (a, a_is, a_heard) (b, b_is, b_heard) =
    let same = one_reading frame a b a_is b_is in
    read_once m a t u v old x y f g had has a_heard
    (subst (λ (r : Result Squitter FrameFault). IsReadHeard m r t v old y g) (sym same) b_heard)

pub one_heard_by_entry : OneHeardByEntry
one_heard_by_entry m frame k u v old new other f g (x, x_is, x_heard) (y, y_is, y_heard) had has =
    let one = heard_once m frame k.tracker x y old new other f g had has x_heard y_heard in (
      one.0,
      one.1,
      x_is ∙ ap (λ (t : Held). Some (record k { tracker = t })) one.2 ∙ sym y_is,
    )

pub restored_hears_as_saved : RestoredHearsAsSaved
restored_hears_as_saved k t was is before entries restored saved long same result done remembers m frame u v old new
    other f g (x, x_is, x_heard) heard had has =
    let whole = restored_as_saved k t was is before entries restored result saved long same done remembers in
    let (y, y_is, y_heard) =
    subst (λ (r : Option Kept). IsTrackerHeard m frame r v old other g) whole.1 heard in
    let one = heard_once m frame k.tracker x y old new other f g had has x_heard y_heard in (
      one.0,
      one.1,
      ap tracker_in x_is ∙ ap (λ (h : Held). Some h) one.2 ∙ sym (ap tracker_in y_is),
    )
