use Rattle.std.proofs.Common.{◌+◌, ◌≤◌, length, subst, sym}
use Rattle.sq_feed.specs.Dates.{judged, waiting}
use Rattle.sq_feed.specs.Ears.{Hears}
use Rattle.sq_feed.proofs.Tallies.{judged_balances}
use Rattle.sq_feed.proofs.Waiting.{room_after, told_few}
use Rattle.sq_feed.proofs.ear.Ear.hear_jump.Goals as goal

pub tell-requires : goal.tell-requires
tell-requires c =
    let ear = c.self.inside in
    told_few (judged ear.times ear.dates c.args.arrival c.args.one) (length (waiting ear.dates))
    c.judge-verdict.result.told.items c.args.ready.now.items
    (judged_balances ear.times ear.dates c.args.arrival c.args.one) c.judge-verdict.ensures.told_are
    (subst (λ (v : Hears). length c.args.ready.now.items + length (waiting v.dates) ≤ 3) (sym c.self.view_is)
    c.requires)

pub returns-clause-room : goal.returns-clause-room
returns-clause-room c =
    let ear = c.self.inside in
    room_after (judged ear.times ear.dates c.args.arrival c.args.one) ear.dates ear.times c.args.arrival
    c.judge-verdict.new.self c.tell.new.self.dates c.judge-verdict.result.told.items c.args.ready.now.items
    c.tell.new.ready.items (judged_balances ear.times ear.dates c.args.arrival c.args.one)
    c.judge-verdict.ensures.after_is c.judge-verdict.ensures.told_are c.tell.ensures.same.0 c.tell.ensures.told
    (subst (λ (v : Hears). length c.args.ready.now.items + length (waiting v.dates) ≤ 3) (sym c.self.view_is)
    c.requires)
