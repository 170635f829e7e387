use Rattle.std.proofs.Common.{ℕ, ◌++◌, ◌∷◌, [], min, refl, sym, ap, subst, ◌∙◌, unwrap_or}
use Rattle.sq_track.specs.Entries.{IsOrdered, IsSound}
use Rattle.sq_track.specs.Held.{Held}
use Rattle.sq_track.specs.Restoring.{CanFollow}
use Rattle.sq_track.specs.contracts.tracker.Tracker.{the_view}
use Rattle.sq_track.proofs.Table.EntryLemmas.{Entries}
use Rattle.sq_track.proofs.Table.RestoreLemmas.{ordered_more, put_back, sound_more}
use Rattle.sq_track.proofs.tracker.Tracker.restore.Goals as goal

pub invariant_of-self : goal.invariant_of-self
invariant_of-self g c =
    let t : Held = the_view g.row.A g.A.Allocator c.self.inside in
    let a = c.args.address in
    let kept = c.args.contact.now in
    let can : CanFollow t a kept =
    subst (λ (v : Held). CanFollow v a kept) (sym c.self.view_is) (c.if-not-can_follow.ensures.yes refl) in
    let new = put_back t a kept c.put_last.new.self can c.in-Ok.ensures.ok in (
      subst (IsSound t.limit t.window t.last) (sym new) (sound_more t a kept can c.self.invariant.0),
      subst (λ (n : ℕ). IsOrdered n (unwrap_or t.last 0) c.put_last.new.self) (sym c.min-self-inside.ensures)
          (subst (IsOrdered (min c.self.inside.since kept.moment) (unwrap_or t.last 0)) (sym new)
          (ordered_more t a kept can c.self.inside.since c.self.invariant.1)),
    )

pub returns-in-Ok-clause-ok : goal.returns-in-Ok-clause-ok
returns-in-Ok-clause-ok g c =
    let t : Held = the_view g.row.A g.A.Allocator c.self.inside in
    let a = c.args.address in
    let kept = c.args.contact.now in
    let can = c.if-not-can_follow.ensures.yes refl in
    let there : CanFollow t a kept = subst (λ (v : Held). CanFollow v a kept) (sym c.self.view_is) can in (
      can,
      ap (λ (es : Entries). record {
        limit = t.limit;
        window = t.window;
        site = t.site;
        last = t.last;
        contacts = es;
      }) (put_back t a kept c.put_last.new.self there c.in-Ok.ensures.ok)
          ∙ ap (λ (v : Held). record v { contacts = v.contacts ++ (a, kept) ∷ [] }) c.self.view_is,
    )
