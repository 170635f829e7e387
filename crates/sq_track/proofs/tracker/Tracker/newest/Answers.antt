use Rattle.std.proofs.Common.{◌∙◌, ap, slice_get, sym, unwrap_or}
use Rattle.sq_track.specs.Held.{Held, heard_since, later}
use Rattle.sq_track.proofs.Table.SinceLemmas.{since_at}
use Rattle.sq_track.proofs.tracker.Tracker.newest.Goals as goal

pub returns : goal.returns
returns g c =
    let t = c.self.inside in
    c.heard_later.ensures ∙ ap (later c.args.since) c.newest.ensures
    ∙ sym (since_at c.args.since t.since (unwrap_or t.last 0) t.contacts c.self.invariant.1 0)
    ∙ ap (λ (v : Held). slice_get (heard_since c.args.since v) 0) c.self.view_is
