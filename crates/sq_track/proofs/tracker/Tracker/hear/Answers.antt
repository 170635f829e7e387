use Rattle.std.proofs.Common.{◌≡◌, ◌∙◌, option_copied, refl, leb, eqb, ◌∷◌, ◌++◌, [], length, filter, find, Option}
use Rattle.std.proofs.Common.{None, Ok, Err, Some, sym, ap, subst}
use Rattle.std.proofs.lemmas.Bool.{false≢true}
use Rattle.std.specs.Map.{lookup}
use Rattle.sq_angle.specs.declared.position.Position.{Position}
use Rattle.sq_message.specs.Parts.{squitter_parts}
use Rattle.sq_track.specs.declared.contact.Contact.{Contact}
use Rattle.sq_track.specs.declared.heard.Heard.TheVariants.{NotPosition}
use Rattle.sq_track.specs.declared.heard.TrackFault.TheVariants.{Memory, Full}
use Rattle.sq_track.specs.History.{History}
use Rattle.sq_track.specs.Answers.{IsHeard}
use Rattle.sq_track.specs.Replies.{IsReply}
use Rattle.sq_track.specs.ByEntries.{IsHeardByEntries}
use Rattle.sq_track.specs.Kept.{IsContactHearing, IsHearingByKept}
use Rattle.sq_track.specs.Entries.{fresh_entry, IsOrdered, IsSound}
use Rattle.sq_track.specs.Ordered.{others_in}
use Rattle.sq_track.specs.Held.{Held, StandsFor, contact_of, settings, present_of}
use Rattle.sq_track.specs.contracts.tracker.Tracker.{the_view}
use Rattle.sq_track.proofs.Table.EnteredLemmas.{full_by_entries, held_after, memory_by_entries}
use Rattle.sq_track.proofs.Table.EnteredLemmas.{other_by_entries, position_by_entries}
use Rattle.sq_track.proofs.Table.EntryLemmas.{Entries, is_shown, find-entries, bound_from}
use Rattle.sq_track.proofs.Table.StandsForLemmas.{in_time_of, full_is, not_full, silent_is, heard_silent, stands_silent}
use Rattle.sq_track.proofs.Table.StandsForLemmas.{stands_position, put_is, ordered_put, sound_put, sound_silent}
use Rattle.sq_track.proofs.Table.StandsForLemmas.{position_of, silent_of, moment_after, own_after, placed_after}
use Rattle.sq_track.proofs.Table.StandsForLemmas.{within_after}
use Rattle.sq_track.proofs.tracker.Tracker.hear.Goals as goal

pub keep_recent-self-inside-requires : goal.keep_recent-self-inside-requires
keep_recent-self-inside-requires g c =
    let t : Held = the_view g.row.A g.A.Allocator c.self.inside in
    bound_from c.self.inside.since t.last c.args.moment t.contacts c.in_ok-check_moment.ensures.ok c.self.invariant.1

pub invariant_of-self : goal.invariant_of-self
invariant_of-self g c =
    let t : Held = the_view g.row.A g.A.Allocator c.self.inside in (
      subst (IsSound t.limit t.window (Some c.args.moment)) (sym c.keep_recent-self-inside.ensures.kept)
          (sound_silent t c.args.moment c.args.squitter.now NotPosition c.in_ok-check_moment.ensures.ok
          c.self.invariant.0),
      c.keep_recent-self-inside.ensures.since,
    )

pub returns-then-not-is_position-clause-reply : goal.returns-then-not-is_position-clause-reply
returns-then-not-is_position-clause-reply g c =
    let t : Held = the_view g.row.A g.A.Allocator c.self.inside in
    let m = c.args.moment in
    let q = c.args.squitter.now in
    let silent = silent_of (squitter_parts q).me
    (λ p. false≢true (sym c.if-not-is_position.true ∙ c.is_position.ensures.1 p)) in
    subst (λ (v : Held). (h : History) → StandsFor v h → IsReply (settings v) h m q (Ok NotPosition)) c.self.view_is
    (λ h st. let in_time = in_time_of t h m st c.in_ok-check_moment.ensures.ok in
    (silent_is t h m q in_time silent, heard_silent t h m q st in_time silent))

pub returns-then-not-is_position-clause-ok : goal.returns-then-not-is_position-clause-ok
returns-then-not-is_position-clause-ok g c =
    let t : Held = the_view g.row.A g.A.Allocator c.self.inside in
    let m = c.args.moment in
    let q = c.args.squitter.now in
    let le = c.in_ok-check_moment.ensures.ok in
    let silent = silent_of (squitter_parts q).me
    (λ p. false≢true (sym c.if-not-is_position.true ∙ c.is_position.ensures.1 p)) in
    subst (λ (v : Held). (h : History) → StandsFor v h
    → StandsFor (record {
      limit = t.limit;
      window = t.window;
      site = t.site;
      last = Some m;
      contacts = c.keep_recent-self-inside.new.contacts;
    })
    (record { moment = m; squitter = q; heard = NotPosition } ∷ h)) c.self.view_is
    (λ h st.
    let in_time = in_time_of t h m st le in
    subst (λ (es : Entries). StandsFor
    (record { limit = t.limit; window = t.window; site = t.site; last = Some m; contacts = es })
    (record { moment = m; squitter = q; heard = NotPosition } ∷ h)) (sym c.keep_recent-self-inside.ensures.kept)
    (stands_silent t m q NotPosition h st le silent c.len-len.ensures.unique c.self.invariant.0.within
    (silent_is t h m q in_time silent, heard_silent t h m q st in_time silent)))

pub returns-then-is_full-clause-reply : goal.returns-then-is_full-clause-reply
returns-then-is_full-clause-reply g c =
    let t : Held = the_view g.row.A g.A.Allocator c.self.inside in
    let m = c.args.moment in
    let q = c.args.squitter.now in
    let here = position_of (squitter_parts q).me (c.is_position.ensures.0 c.if-not-is_position.false) in
    let full = subst (λ a. c.is_full.result
    ≡ leb t.limit (length (others_in a
    (filter (fresh_entry t.window m) t.contacts)))) c.address-address.ensures.value c.is_full.ensures in
    subst (λ (v : Held). (h : History) → StandsFor v h → IsReply (settings v) h m q (Err Full)) c.self.view_is
    (λ h st. let in_time = in_time_of t h m st c.in_ok-check_moment.ensures.ok in
    (in_time, full_is t h m q st in_time here (sym full ∙ c.if-is_full.true)))

pub keep_recent-self-inside-requires-in-Ok : goal.keep_recent-self-inside-requires-in-Ok
keep_recent-self-inside-requires-in-Ok g c =
    let t : Held = the_view g.row.A g.A.Allocator c.self.inside in
    let m = c.args.moment in
    let q = c.args.squitter.now in
    let a = (squitter_parts q).address in
    let here = position_of (squitter_parts q).me (c.is_position.ensures.0 c.if-not-is_position.false) in
    let (new, step_at, put_at) = c.in-Ok.ensures.ok in
    let step = subst (λ a. IsContactHearing t.window (option_copied c.as_ref-site.result) m q
    (contact_of t.contacts a) c.in-Ok.heard new) c.address-address.ensures.value step_at in
    let moment = moment_after m q c.in-Ok.heard (contact_of t.contacts a) new here step.kept in
    let put = subst (λ x. c.hear_last.new.self ≡ others_in x t.contacts
    ++ (x, new) ∷ []) c.address-address.ensures.value put_at in
    subst (IsOrdered c.self.inside.since m) (sym put)
    (ordered_put t m q c.in-Ok.heard here new moment c.self.inside.since c.in_ok-check_moment.ensures.ok
    c.self.invariant.1)

pub invariant_of-self-in-Ok : goal.invariant_of-self-in-Ok
invariant_of-self-in-Ok g c =
    let t : Held = the_view g.row.A g.A.Allocator c.self.inside in
    let m = c.args.moment in
    let q = c.args.squitter.now in
    let heard = c.in-Ok.heard in
    let le = c.in_ok-check_moment.ensures.ok in
    let here = position_of (squitter_parts q).me (c.is_position.ensures.0 c.if-not-is_position.false) in
    let full = subst (λ a. c.is_full.result
    ≡ leb t.limit (length (others_in a
    (filter (fresh_entry t.window m) t.contacts)))) c.address-address.ensures.value c.is_full.ensures in
    let old : Contact = contact_of t.contacts (squitter_parts q).address in
    let (new, step_at, put_at) = c.in-Ok.ensures.ok in
    let step = subst (λ a. IsContactHearing t.window (option_copied c.as_ref-site.result) m q
    (contact_of t.contacts a) c.in-Ok.heard new) c.address-address.ensures.value step_at in
    let moment = moment_after m q heard old new here step.kept in
    let put = subst (λ x. c.hear_last.new.self ≡ others_in x t.contacts
    ++ (x, new) ∷ []) c.address-address.ensures.value put_at in
    let all = c.keep_recent-self-inside-in-Ok.ensures.kept ∙ ap (filter (fresh_entry t.window m)) put
    ∙ put_is t m q heard here new moment in (
      subst (IsSound t.limit t.window (Some m)) (sym all)
          (sound_put t m q heard here new moment le (sym full ∙ c.if-is_full.false) c.self.invariant.0
          (within_after t m q heard old new le c.self.invariant.0 here refl step.kept)
          (own_after t m q heard old new le c.self.invariant.0 here refl step.kept)
          (placed_after t m q heard old new le c.self.invariant.0 here refl (option_copied c.as_ref-site.result)
          (record { by_kept = step.by_kept; kept = step.kept }))),
      c.keep_recent-self-inside-in-Ok.ensures.since,
    )

pub returns-in-Ok-clause-reply : goal.returns-in-Ok-clause-reply
returns-in-Ok-clause-reply g c =
    let t : Held = the_view g.row.A g.A.Allocator c.self.inside in
    let m = c.args.moment in
    let q = c.args.squitter.now in
    let heard = c.in-Ok.heard in
    let (new, step_at, put_at) = c.in-Ok.ensures.ok in
    let step = subst (λ a. IsContactHearing t.window (option_copied c.as_ref-site.result) m q
    (contact_of t.contacts a) c.in-Ok.heard new) c.address-address.ensures.value step_at in
    let full = subst (λ a. c.is_full.result
    ≡ leb t.limit (length (others_in a
    (filter (fresh_entry t.window m) t.contacts)))) c.address-address.ensures.value c.is_full.ensures in
    subst (λ (v : Held). (h : History) → StandsFor v h → IsReply (settings v) h m q (Ok heard)) c.self.view_is
    (λ h st.
    let in_time = in_time_of t h m st c.in_ok-check_moment.ensures.ok in
    let old = st.kept (squitter_parts q).address in (
      not_full t h m q st in_time (sym full ∙ c.if-is_full.false),
      subst (λ (site : Option Position). IsHeard t.window site h m q heard) c.as_ref-site.ensures.value
          (step.answers h old in_time),
    ))

pub returns-in-Ok-clause-ok : goal.returns-in-Ok-clause-ok
returns-in-Ok-clause-ok g c =
    let t : Held = the_view g.row.A g.A.Allocator c.self.inside in
    let m = c.args.moment in
    let q = c.args.squitter.now in
    let heard = c.in-Ok.heard in
    let le = c.in_ok-check_moment.ensures.ok in
    let here = position_of (squitter_parts q).me (c.is_position.ensures.0 c.if-not-is_position.false) in
    let full = subst (λ a. c.is_full.result
    ≡ leb t.limit (length (others_in a
    (filter (fresh_entry t.window m) t.contacts)))) c.address-address.ensures.value c.is_full.ensures in
    let old : Contact = contact_of t.contacts (squitter_parts q).address in
    let (new, step_at, put_at) = c.in-Ok.ensures.ok in
    let step = subst (λ a. IsContactHearing t.window (option_copied c.as_ref-site.result) m q
    (contact_of t.contacts a) c.in-Ok.heard new) c.address-address.ensures.value step_at in
    let moment = moment_after m q heard old new here step.kept in
    let put = subst (λ x. c.hear_last.new.self ≡ others_in x t.contacts
    ++ (x, new) ∷ []) c.address-address.ensures.value put_at in
    let all = c.keep_recent-self-inside-in-Ok.ensures.kept ∙ ap (filter (fresh_entry t.window m)) put
    ∙ put_is t m q heard here new moment in
    subst (λ (v : Held). (h : History) → StandsFor v h
    → StandsFor (record {
      limit = t.limit;
      window = t.window;
      site = t.site;
      last = Some m;
      contacts = c.keep_recent-self-inside-in-Ok.new.contacts;
    })
    (record { moment = m; squitter = q; heard = heard } ∷ h)) c.self.view_is
    (λ h st.
    let in_time = in_time_of t h m st le in
    let remembered = st.kept (squitter_parts q).address in
    let reply : IsReply (settings t) h m q (Ok heard) = (
      not_full t h m q st in_time (sym full ∙ c.if-is_full.false),
      subst (λ (site : Option Position). IsHeard t.window site h m q heard) c.as_ref-site.ensures.value
          (step.answers h remembered in_time),
    ) in
    subst (λ (es : Entries). StandsFor
    (record { limit = t.limit; window = t.window; site = t.site; last = Some m; contacts = es })
    (record { moment = m; squitter = q; heard = heard } ∷ h)) (sym all)
    (stands_position t m q heard here new moment h st le c.len-len.ensures.unique c.self.invariant.0.within reply
    (step.remembers h remembered in_time)))

pub returns-in-Err-clause-reply : goal.returns-in-Err-clause-reply
returns-in-Err-clause-reply g c =
    let t : Held = the_view g.row.A g.A.Allocator c.self.inside in
    let m = c.args.moment in
    let q = c.args.squitter.now in
    let full = subst (λ a. c.is_full.result
    ≡ leb t.limit (length (others_in a
    (filter (fresh_entry t.window m) t.contacts)))) c.address-address.ensures.value c.is_full.ensures in
    subst (λ (v : Held). (h : History) → StandsFor v h → IsReply (settings v) h m q (Err Memory)) c.self.view_is
    (λ h st. let in_time = in_time_of t h m st c.in_ok-check_moment.ensures.ok in not_full t h m q st in_time
    (sym full ∙ c.if-is_full.false))

pub returns-in-Err-clause-known : goal.returns-in-Err-clause-known
returns-in-Err-clause-known g c = λ _.
    let t : Held = the_view g.row.A g.A.Allocator c.self.inside in
    let a = (squitter_parts c.args.squitter.now).address in
    let absent = subst (λ x. lookup (eqb x) c.self.inside.contacts
    ≡ None) c.address-address.ensures.value c.in-Err.ensures.absent in
    sym (ap (λ (v : Held). find (is_shown a) (present_of v)) c.self.view_is)
    ∙ find-entries a c.self.inside.contacts absent

pub returns-then-not-is_position-clause-entries : goal.returns-then-not-is_position-clause-entries
returns-then-not-is_position-clause-entries g c =
    let t : Held = the_view g.row.A g.A.Allocator c.self.inside in
    let m = c.args.moment in
    let q = c.args.squitter.now in
    let new = c.keep_recent-self-inside.new.contacts in
    subst (λ (v : Held). IsHeardByEntries m q v (held_after t m new) (Ok NotPosition)) c.self.view_is
    (other_by_entries t m q c.in_ok-check_moment.ensures.ok new
    (λ p. false≢true (sym c.if-not-is_position.true ∙ c.is_position.ensures.1 p))
    c.keep_recent-self-inside.ensures.kept)

pub returns-then-is_full-clause-entries : goal.returns-then-is_full-clause-entries
returns-then-is_full-clause-entries g c =
    let t : Held = the_view g.row.A g.A.Allocator c.self.inside in
    let m = c.args.moment in
    let q = c.args.squitter.now in
    let full = subst (λ a. c.is_full.result
    ≡ leb t.limit (length (others_in a
    (filter (fresh_entry t.window m) t.contacts)))) c.address-address.ensures.value c.is_full.ensures in
    subst (λ (v : Held). IsHeardByEntries m q v v (Err Full)) c.self.view_is
    (full_by_entries t m q c.in_ok-check_moment.ensures.ok (c.is_position.ensures.0 c.if-not-is_position.false)
    (sym full ∙ c.if-is_full.true))

pub returns-in-Ok-clause-entries : goal.returns-in-Ok-clause-entries
returns-in-Ok-clause-entries g c =
    let t : Held = the_view g.row.A g.A.Allocator c.self.inside in
    let m = c.args.moment in
    let q = c.args.squitter.now in
    let heard = c.in-Ok.heard in
    let le = c.in_ok-check_moment.ensures.ok in
    let is_here = c.is_position.ensures.0 c.if-not-is_position.false in
    let here = position_of (squitter_parts q).me is_here in
    let full = subst (λ a. c.is_full.result
    ≡ leb t.limit (length (others_in a
    (filter (fresh_entry t.window m) t.contacts)))) c.address-address.ensures.value c.is_full.ensures in
    let old : Contact = contact_of t.contacts (squitter_parts q).address in
    let (new, step_at, put_at) = c.in-Ok.ensures.ok in
    let step = subst (λ a. IsContactHearing t.window (option_copied c.as_ref-site.result) m q
    (contact_of t.contacts a) c.in-Ok.heard new) c.address-address.ensures.value step_at in
    let moment = moment_after m q heard old new here step.kept in
    let put = subst (λ x. c.hear_last.new.self ≡ others_in x t.contacts
    ++ (x, new) ∷ []) c.address-address.ensures.value put_at in
    let all = c.keep_recent-self-inside-in-Ok.ensures.kept ∙ ap (filter (fresh_entry t.window m)) put
    ∙ put_is t m q heard here new moment in
    let hearing = subst (λ (site : Option Position). IsHearingByKept t.window site m q old heard new)
    c.as_ref-site.ensures.value (record { by_kept = step.by_kept; kept = step.kept }) in
    subst (λ (v : Held). IsHeardByEntries m q v (held_after t m c.keep_recent-self-inside-in-Ok.new.contacts)
    (Ok heard)) c.self.view_is
    (position_by_entries t m q le heard new c.keep_recent-self-inside-in-Ok.new.contacts is_here
    (sym full ∙ c.if-is_full.false) hearing all)

pub returns-in-Err-clause-entries : goal.returns-in-Err-clause-entries
returns-in-Err-clause-entries g c =
    let t : Held = the_view g.row.A g.A.Allocator c.self.inside in
    let m = c.args.moment in
    let q = c.args.squitter.now in
    let full = subst (λ a. c.is_full.result
    ≡ leb t.limit (length (others_in a
    (filter (fresh_entry t.window m) t.contacts)))) c.address-address.ensures.value c.is_full.ensures in
    let absent = subst (λ x. lookup (eqb x) t.contacts
    ≡ None) c.address-address.ensures.value c.in-Err.ensures.absent in
    subst (λ (v : Held). IsHeardByEntries m q v (record t { contacts = c.hear_last.new.self }) (Err Memory))
    c.self.view_is
    (memory_by_entries t m q c.in_ok-check_moment.ensures.ok (record t { contacts = c.hear_last.new.self })
    (c.is_position.ensures.0 c.if-not-is_position.false) (sym full ∙ c.if-is_full.false) absent
    (ap (λ (es : Entries). record t { contacts = es }) c.in-Err.ensures.err))
