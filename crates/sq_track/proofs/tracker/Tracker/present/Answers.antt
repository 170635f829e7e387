use Rattle.std.proofs.Common.{◌≡◌, ◌∙◌, ap, arith, slice_get, sym}
use Rattle.sq_track.specs.Held.{heard_since}
use Rattle.sq_track.proofs.Table.SinceLemmas.{nothing_behind}
use Rattle.sq_track.proofs.tracker.Tracker.present.Goals as goal

pub loop-at-init : goal.loop-at-init
loop-at-init g c = c.newest-next.ensures

pub returns-in_err-address : goal.returns-in_err-address
returns-in_err-address g c =
    c.from_residual.ensures
    ∙ sym (nothing_behind (heard_since c.args.since c.args.self.now) c.loop-at.at c.args.index
    (sym c.loop-at.invariant ∙ c.in_err-address.was) (omega (arith, c.loop-at-test.true)))

pub present_behind-next-requires : goal.present_behind-next-requires
present_behind-next-requires g c = (c.in_ok-address.field-0-1, sym c.loop-at.invariant ∙ c.in_ok-address.was)

pub loop-at-preserved : goal.loop-at-preserved
loop-at-preserved g c = c.present_behind-next.ensures

pub returns : goal.returns
returns g c =
    c.loop-at.invariant
    ∙ ap (slice_get (heard_since c.args.since c.args.self.now))
    (omega (arith, c.loop-at-test.false, c.loop-at.auto.at-end))
