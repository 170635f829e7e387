-- A call has at most one result, unless it is out of memory.
use Rattle.std.proofs.Common.{◌≡◌, ◌≢◌, ◌∙◌, ℕ, List, [], ◌∷◌, Some, None, Result, Ok, Err, ap, arith, inl, inr}
use Rattle.std.proofs.Common.{length, map, refl, sym, subst}
use Rattle.sq_message.specs.declared.squitter.FrameFault.{FrameFault}
use Rattle.sq_message.specs.declared.squitter.Squitter.{Squitter}
use Rattle.sq_message.proofs.One.{one_reading}
use Rattle.squitter_c.specs.declared.faults.Fault.{Fault}
use Rattle.squitter_c.specs.declared.heard.PlainHeard.{PlainHeard}
use Rattle.squitter_c.specs.Faults.{Tells}
use Rattle.squitter_c.specs.Heard.{IsPlainHeard}
use Rattle.squitter_c.proofs.OneHeard.{one_heard}
use Rattle.squitter_c.proofs.OnePlain.{is_position, one_of_degrees}
use Rattle.squitter_c.proofs.OneTelling.{one_telling}
use Rattle.sq_track.specs.declared.contact.Contact.{Contact}
use Rattle.sq_track.specs.declared.heard.Heard.{Heard}
use Rattle.sq_track.specs.declared.heard.TrackFault.{TrackFault}
use Rattle.sq_track.specs.declared.heard.TrackFault.TheVariants.{Memory}
use Rattle.sq_track.specs.Held.{Held, StandsFor, made_with, settings}
use Rattle.sq_track.specs.History.{History}
use Rattle.sq_track.specs.Replies.{IsReply, Settings, history_after}
use Rattle.sq_track.proofs.Histories.OneReply.{one_reply}
use Rattle.sq_track.proofs.Lists.Found.{same_some}
use Rattle.squitter_c.specs.OneTrackers.{OneHearing, OneMade, OneMadeAt, no_memory}
use Rattle.squitter_c.specs.Trackers.{IsMade, IsReadHeard, of_tracker, tracker_in}

-- ---- new trackers

-- if no address is present, there are no contacts
none_kept : (contacts : List (ℕ × Contact))
    → map {B = ℕ × ℕ} (λ (e : ℕ × Contact). (e.0, e.1.moment)) contacts ≡ [] → contacts ≡ []
none_kept [] e = refl
none_kept (entry ∷ rest) e = absurd (omega (arith, ap length e))

-- an empty tracker is determined by its settings
one_empty : (s : Settings) (t u : Held) → StandsFor t [] → StandsFor u [] → settings t ≡ s → settings u ≡ s → t ≡ u
one_empty s t u h k is also =
    let same = is ∙ sym also in
    let last = h.last ∙ sym k.last in
    let contacts = none_kept t.contacts h.present ∙ sym (none_kept u.contacts k.present) in
    λ i. record {
      limit = (same i).limit;
      window = (same i).window;
      site = (same i).site;
      last = last i;
      contacts = contacts i;
    }

pub one_made : OneMade
one_made limit window site (Some t) (Some u) f g h k had has =
    (ap Some (one_empty (made_with limit window site) t.tracker u.tracker h.1 k.1 h.2 k.2), h.3 ∙ sym k.3)
one_made limit window site (Some t) None f g h (inl k) had has = absurd (h.0 k.0)
one_made limit window site (Some t) None f g h (inr k) had has = absurd (has k.1)
one_made limit window site None (Some u) f g (inl h) k had has = absurd (k.0 h.0)
one_made limit window site None (Some u) f g (inr h) k had has = absurd (had h.1)
one_made limit window site None None f g (inl h) (inl k) had has = (refl, h.1 ∙ sym k.1)
one_made limit window site None None f g (inl h) (inr k) had has = absurd (has k.1)
one_made limit window site None None f g (inr h) k had has = absurd (had h.1)

pub one_made_at : OneMadeAt
one_made_at limit window plain x y f g (inl h) (inl k) had has = (ap tracker_in (h.1 ∙ sym k.1), h.2 ∙ sym k.2)
one_made_at limit window plain x y f g (inl h) (inr (q, q_is, k)) had has = absurd (h.0 (is_position plain q q_is))
one_made_at limit window plain x y f g (inr (p, p_is, h)) (inl k) had has = absurd (k.0 (is_position plain p p_is))
one_made_at limit window plain x y f g (inr (p, p_is, h)) (inr (q, q_is, k)) had has =
    let same = one_of_degrees plain p q p_is q_is in
    one_made limit window (Some p) x y f g h (subst (λ r. IsMade limit window (Some r) y g) (sym same) k) had has

-- ---- results

-- a reply that is reported with another fault than `no_memory` is not `Memory`
pub had_memory : (reply : Result Heard TrackFault) (old new : PlainHeard) (fault : Fault)
    → Tells IsPlainHeard of_tracker reply old new fault → fault ≢ no_memory → reply ≢ Err Memory
had_memory reply old new fault told had is =
    had ((subst (λ r. Tells IsPlainHeard of_tracker r old new fault) is told).1)

-- a reply by a history, other than out of memory
abbrev Replied : Settings → History → (moment : ℕ) → Squitter → Result Heard TrackFault → Type 0
Replied s h moment q reply = IsReply s h moment q reply × (reply ≢ Err Memory)

-- the results for a frame that was read as this
heard_once : (h : History) (moment : ℕ) (answer : Result Squitter FrameFault) (t u v : Held) (old x y : PlainHeard)
    (f g : Fault) → StandsFor t h → f ≢ no_memory → g ≢ no_memory → IsReadHeard moment answer t u old x f
    → IsReadHeard moment answer t v old y g
    → (x ≡ y) × (f ≡ g) × ((later : History) × StandsFor u later × StandsFor v later)
heard_once h moment (Ok q) t u v old x y f g stands had has (r, r_is, r_told) (s, s_is, s_told) =
    let r_had = had_memory r old x f r_told had in
    let s_had = had_memory s old y g s_told has in
    let r_by = r_is.by_history h stands in
    let s_by = s_is.by_history h stands in
    let same = one_reply (settings t) h moment q r s r_had s_had r_by s_by in
    let told = one_telling (Replied (settings t) h moment q) IsPlainHeard of_tracker
    (λ a b a_is b_is. one_reply (settings t) h moment q a b a_is.1 b_is.1 a_is.0 b_is.0)
    one_heard old x y f g (r, (r_by, r_had), r_told) (s, (s_by, s_had), s_told) in (
      told.0,
      told.1,
      (
        history_after h moment q r,
        r_is.after h stands,
        subst (λ a. StandsFor v (history_after h moment q a)) (sym same) (s_is.after h stands),
      ),
    )
heard_once h moment (Err reason) t u v old x y f g stands had has (u_is, x_is, f_is) (v_is, y_is, g_is) = (
  x_is ∙ sym y_is,
  f_is ∙ sym g_is,
  (h, subst (λ w. StandsFor w h) (sym u_is) stands, subst (λ w. StandsFor w h) (sym v_is) stands),
)

pub one_hearing : OneHearing
one_hearing moment frame t u v old new other f g (x, x_is, (a, a_is, a_heard)) (y, y_is, (b, b_is, b_heard))
    had has h stands =
    let same = one_reading frame a b a_is b_is in
    let (news, faults, (later, x_stands, y_stands)) = heard_once h moment a t.tracker x y old new other f g stands had
    has
    a_heard (subst (λ r. IsReadHeard moment r t.tracker y old other g) (sym same) b_heard) in (
      news,
      faults,
      (
        later,
        subst (λ w. StandsFor w.tracker later) (sym (same_some u (record t { tracker = x }) x_is)) x_stands,
        subst (λ w. StandsFor w.tracker later) (sym (same_some v (record t { tracker = y }) y_is)) y_stands,
      ),
    )

-- ---- present addresses
