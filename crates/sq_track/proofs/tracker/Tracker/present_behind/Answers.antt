use Rattle.std.proofs.Common.{◌≡◌, ◌+◌, ◌∙◌, ℕ, List, Some, ap, reverse, slice_get, sym, unwrap_or}
use Rattle.sq_track.specs.declared.contact.Contact.{Contact}
use Rattle.sq_track.specs.Held.{Held, heard_since, later}
use Rattle.sq_track.proofs.Table.SinceLemmas.{later_is, since_at}
use Rattle.sq_track.proofs.tracker.Tracker.present_behind.Goals as goal

pub entry_ahead-requires : goal.entry_ahead-requires
entry_ahead-requires g c =
    let t = c.self.inside in (
      c.requires.0,
      later_is c.args.since (slice_get (reverse t.contacts) c.args.index) (c.args.address, c.requires.0)
          (sym (since_at c.args.since t.since (unwrap_or t.last 0) t.contacts c.self.invariant.1 c.args.index)
          ∙ ap (λ (v : Held). slice_get (heard_since c.args.since v) c.args.index) c.self.view_is ∙ c.requires.1),
    )

pub returns : goal.returns
returns g c =
    let t = c.self.inside in
    c.heard_later.ensures ∙ ap (later c.args.since) c.entry_ahead.ensures
    ∙ sym (since_at c.args.since t.since (unwrap_or t.last 0) t.contacts c.self.invariant.1 (c.args.index + 1))
    ∙ ap (λ (v : Held). slice_get (heard_since c.args.since v) (c.args.index + 1)) c.self.view_is
