use Rattle.std.proofs.Common.{◌≡◌, ◌/◌, ◌%◌, ◌^◌, ◌∙◌, ap, length}
use Rattle.sq_feed.specs.declared.message.Timed.{Timed}
use Rattle.sq_feed.specs.Dates.{waiting}
use Rattle.sq_feed.specs.Ears.{Hears, judged_with}
use Rattle.sq_feed.proofs.Tallies.{clock_balances}
use Rattle.sq_feed.proofs.Waiting.{room_after, told_few}
use Rattle.sq_feed.proofs.ear.Ear.hear_clock_jump.Goals as goal
use Rattle.sq_feed.proofs.ear.Ear.hear_clock_jump.Goals.{then-is_calm, else-is_calm}

pub tell-requires : goal.tell-requires
tell-requires c =
    let ear = c.args.self.now in
    let one : Timed = record { moment = c.if-has_clock.count / 12000; frame = c.args.frame } in
    told_few (judged_with ear.times (c.args.ticks % 2 ^ 48) ear.dates c.args.arrival one) (length (waiting ear.dates))
    c.judge_clock-verdict.result.told.items c.args.ready.now.items
    (clock_balances ear.times (c.args.ticks % 2 ^ 48) ear.dates c.args.arrival one)
    c.judge_clock-verdict.ensures.verdict.told_are c.requires

pub returns-clause-room : goal.returns-clause-room
returns-clause-room c =
    let ear = c.args.self.now in
    let one : Timed = record { moment = c.if-has_clock.count / 12000; frame = c.args.frame } in
    let verdict = c.judge_clock-verdict.ensures.verdict in
    let same : c.if-is_calm.self.dates ≡ c.judge_clock-verdict.new.self.dates = elim c.if-is_calm.branch [
      | then-is_calm w ↦ ap (λ (h : Hears). h.dates) w.self-is ∙ ap (λ (h : Hears). h.dates) c.self-2.view_is
      | else-is_calm w ↦ ap (λ (h : Hears). h.dates) w.self-is
    ] in
    room_after (judged_with ear.times (c.args.ticks % 2 ^ 48) ear.dates c.args.arrival one) ear.dates
    c.if-is_calm.self.times c.args.arrival
    c.if-is_calm.self.dates c.tell.new.self.dates c.judge_clock-verdict.result.told.items c.args.ready.now.items
    c.tell.new.ready.items
    (clock_balances ear.times (c.args.ticks % 2 ^ 48) ear.dates c.args.arrival one)
    (same ∙ verdict.after_is) verdict.told_are c.tell.ensures.same.0 c.tell.ensures.told c.requires
