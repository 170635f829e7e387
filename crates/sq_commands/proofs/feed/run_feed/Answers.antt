use Rattle.std.proofs.Common.{◌≡◌, ◌≢◌, ◌∙◌, ◌<◌, None, ap, arith, is_some, rules, sym, take, true≢false}
use Rattle.sq_devices.specs.Calls.{HasPut}
use Rattle.sq_feed.specs.Feeds.{Feeding, nothing_fed}
use Rattle.sq_feed.specs.Units.{watched_all}
use Rattle.sq_feed.proofs.Waiting.{none_ready}
use Rattle.sq_commands.specs.Feed.{HasPutSorted, manner_of}
use Rattle.sq_commands.proofs.Feeding.{fed_text}
use Rattle.sq_commands.proofs.Sortings.{fed_part}
use Rattle.sq_commands.proofs.FeedRuns.{early_reported, ended, ended_early, ended_reported, ended_within}
use Rattle.sq_commands.proofs.FeedRuns.{going_more, going_nothing, read_failed}
use Rattle.sq_commands.proofs.feed.run_feed.Goals as goal

pub loop-count-init : goal.loop-count-init
loop-count-init g c =
    let live = c.is_live-is_live.ensures in
    record {
      room = search rules;
      live = live;
      going = going_nothing c.args.options.now g.C.Clock g.S.Source g.K.Sink c.args.clock.now c.args.source.now
          c.args.sink.now
          c.new-feed.result c.order_of-order.result c.new-units.result
          (c.new-feed.ensures ∙ ap (nothing_fed c.args.options.now.format) (c.manner_of.ensures
          ∙ ap (manner_of c.args.options.now) live)) c.order_of-order.ensures.is c.order_of-order.ensures.settled
          c.new-units.ensures;
      none = ap (λ (f : Feeding). f.ready) c.new-feed.ensures;
    }

pub returns-in_default-clause-ran : goal.returns-in_default-clause-ran
returns-in_default-clause-ran g c =
    let of = c.in_default.ensures in
    read_failed c.args.options.now g.C.Clock g.S.Source g.K.Sink c.args.clock.now c.args.source.now c.args.sink.now
    c.loop-count.clock c.loop-count.source c.loop-count.sink c.loop-count.feed
    c.loop-count.order c.loop-count.units c.loop-count.invariant.going c.get.new.self
    (search rules) (search rules) (search rules)

pub returns-then-count-eq0-clause-ran : goal.returns-then-count-eq0-clause-ran
returns-then-count-eq0-clause-ran g c =
    let got = c.in-Ok.ensures in
    let none = c.if-count-eq0.true in
    ended c.args.options.now g.C.Clock g.S.Source g.K.Sink c.args.clock.now c.args.source.now c.args.sink.now
    c.loop-count.clock c.loop-count.source c.loop-count.sink c.loop-count.feed
    c.loop-count.order c.loop-count.units c.loop-count.invariant.going
    c.now-arrival.new.self c.now-arrival.result c.now-arrival.ensures.told c.get.new.self c.get.new.into c.in-Ok.count
    got.fits got.gave got.moved got.used
    none (got.end none (search rules)) c.put_end.new.sink c.put_end.result c.is_live-is_live.result
    c.is_live-is_live.ensures c.put_end.ensures.ok c.put_end.ensures.err

pub returns-then-count-eq0-clause-reported : goal.returns-then-count-eq0-clause-reported
returns-then-count-eq0-clause-reported g c =
    let got = c.in-Ok.ensures in
    let none = c.if-count-eq0.true in
    ended_reported c.args.options.now g.C.Clock g.S.Source g.K.Sink c.args.clock.now c.args.source.now c.args.sink.now
    c.loop-count.clock c.loop-count.source c.loop-count.sink c.loop-count.feed
    c.loop-count.order c.loop-count.units c.loop-count.invariant.going
    c.now-arrival.new.self c.now-arrival.result c.now-arrival.ensures.told c.get.new.self c.get.new.into c.in-Ok.count
    got.fits got.gave got.moved got.used
    none (got.end none (search rules)) c.put_end.new.sink c.put_end.result c.is_live-is_live.result
    c.is_live-is_live.ensures c.put_end.ensures.ok c.put_end.ensures.err

pub returns-in-Err-clause-ran : goal.returns-in-Err-clause-ran
returns-in-Err-clause-ran g c =
    let got = c.in-Ok.ensures in
    let (count, part) = c.in-Err.ensures.part in
    let fed = fed_part c.now-arrival.result c.loop-count.order c.loop-count.feed c.put_piece.new.feed
    (take count (take c.in-Ok.count c.get.new.into)) (g.K.Sink.written c.loop-count.sink)
    (g.K.Sink.written c.put_piece.new.sink) part c.loop-count.invariant.none in
    ended_within c.args.options.now g.C.Clock g.S.Source g.K.Sink c.args.clock.now c.args.source.now c.args.sink.now
    c.loop-count.clock c.loop-count.source c.loop-count.sink c.loop-count.feed
    c.loop-count.order c.loop-count.units c.loop-count.invariant.going
    c.now-arrival.new.self c.now-arrival.result c.now-arrival.ensures.told c.get.new.self c.get.new.into c.in-Ok.count
    got.fits got.gave got.moved got.used
    c.in-Err.fault c.put_piece.new.sink c.put_piece.new.feed count c.in-Err.ensures.stopped fed
    c.put_piece.ensures.unfinished

pub loop-count-preserved : goal.loop-count-preserved
loop-count-preserved g c =
    let got = c.in-Ok.ensures in
    let some : 0 < c.in-Ok.count = omega (arith, c.if-count-eq0.false) in
    let none = none_ready c.put_piece.new.feed c.in-Ok-put_piece.ensures.done in
    let fed = fed_text c.now-arrival.result c.loop-count.feed c.put_piece.new.feed
    (take c.in-Ok.count c.get.new.into) (λ came. HasPutSorted c.loop-count.order c.put_piece.new.order came
    (HasPut g.K.Sink c.loop-count.sink c.put_piece.new.sink)
    × (c.put_piece.new.units ≡ watched_all c.loop-count.units came))
    c.in-Ok-put_piece.ensures.put c.loop-count.invariant.none none in
    record {
      room = search rules;
      live = c.loop-count.invariant.live;
      going = going_more c.args.options.now g.C.Clock g.S.Source g.K.Sink c.args.clock.now c.args.source.now
          c.args.sink.now
          c.loop-count.clock c.loop-count.source c.loop-count.sink c.loop-count.feed
          c.loop-count.order c.loop-count.units c.loop-count.invariant.going
          c.now-arrival.new.self c.now-arrival.result c.now-arrival.ensures.told
          c.get.new.self c.get.new.into c.in-Ok.count got.fits got.gave got.moved got.used
          c.put_piece.new.sink c.put_piece.new.feed c.put_piece.new.order c.put_piece.new.units some fed
          c.put_piece.ensures.unfinished;
      none = none;
    }

pub returns-then-is_some-clause-ran : goal.returns-then-is_some-clause-ran
returns-then-is_some-clause-ran g c =
    let got = c.in-Ok.ensures in
    let some : 0 < c.in-Ok.count = omega (arith, c.if-count-eq0.false) in
    let none = none_ready c.put_piece.new.feed c.in-Ok-put_piece.ensures.done in
    let fed = fed_text c.now-arrival.result c.loop-count.feed c.put_piece.new.feed
    (take c.in-Ok.count c.get.new.into) (λ came. HasPutSorted c.loop-count.order c.put_piece.new.order came
    (HasPut g.K.Sink c.loop-count.sink c.put_piece.new.sink)
    × (c.put_piece.new.units ≡ watched_all c.loop-count.units came))
    c.in-Ok-put_piece.ensures.put c.loop-count.invariant.none none in
    let going = going_more c.args.options.now g.C.Clock g.S.Source g.K.Sink c.args.clock.now c.args.source.now
    c.args.sink.now
    c.loop-count.clock c.loop-count.source c.loop-count.sink c.loop-count.feed
    c.loop-count.order c.loop-count.units c.loop-count.invariant.going
    c.now-arrival.new.self c.now-arrival.result c.now-arrival.ensures.told c.get.new.self c.get.new.into c.in-Ok.count
    got.fits got.gave got.moved got.used
    c.put_piece.new.sink c.put_piece.new.feed c.put_piece.new.order c.put_piece.new.units some fed
    c.put_piece.ensures.unfinished in
    let known : c.put_piece.new.feed.ear.stranger ≢ None =
    λ none. true≢false (sym c.if-is_some.true ∙ c.is_some.ensures ∙ ap is_some (c.stranger.ensures ∙ none)) in
    ended_early c.args.options.now g.C.Clock g.S.Source g.K.Sink c.args.clock.now c.args.source.now c.args.sink.now
    c.now-arrival.new.self c.get.new.self c.put_piece.new.sink c.put_piece.new.feed c.put_piece.new.order
    c.put_piece.new.units going
    c.now-end.new.self c.now-end.result c.now-end.ensures.told (sym c.loop-count.invariant.live ∙ c.if-is_live.true)
    known c.put_end-then-is_some.new.sink c.put_end-then-is_some.result c.is_live-is_live.result
    c.is_live-is_live.ensures
    c.put_end-then-is_some.ensures.ok
    c.put_end-then-is_some.ensures.err

pub returns-then-is_some-clause-reported : goal.returns-then-is_some-clause-reported
returns-then-is_some-clause-reported g c =
    let got = c.in-Ok.ensures in
    let some : 0 < c.in-Ok.count = omega (arith, c.if-count-eq0.false) in
    let none = none_ready c.put_piece.new.feed c.in-Ok-put_piece.ensures.done in
    let fed = fed_text c.now-arrival.result c.loop-count.feed c.put_piece.new.feed
    (take c.in-Ok.count c.get.new.into) (λ came. HasPutSorted c.loop-count.order c.put_piece.new.order came
    (HasPut g.K.Sink c.loop-count.sink c.put_piece.new.sink)
    × (c.put_piece.new.units ≡ watched_all c.loop-count.units came))
    c.in-Ok-put_piece.ensures.put c.loop-count.invariant.none none in
    let going = going_more c.args.options.now g.C.Clock g.S.Source g.K.Sink c.args.clock.now c.args.source.now
    c.args.sink.now
    c.loop-count.clock c.loop-count.source c.loop-count.sink c.loop-count.feed
    c.loop-count.order c.loop-count.units c.loop-count.invariant.going
    c.now-arrival.new.self c.now-arrival.result c.now-arrival.ensures.told c.get.new.self c.get.new.into c.in-Ok.count
    got.fits got.gave got.moved got.used
    c.put_piece.new.sink c.put_piece.new.feed c.put_piece.new.order c.put_piece.new.units some fed
    c.put_piece.ensures.unfinished in
    let known : c.put_piece.new.feed.ear.stranger ≢ None =
    λ none. true≢false (sym c.if-is_some.true ∙ c.is_some.ensures ∙ ap is_some (c.stranger.ensures ∙ none)) in
    early_reported c.args.options.now g.C.Clock g.S.Source g.K.Sink c.args.clock.now c.args.source.now c.args.sink.now
    c.now-arrival.new.self c.get.new.self c.put_piece.new.sink c.put_piece.new.feed c.put_piece.new.order
    c.put_piece.new.units going
    c.now-end.new.self c.now-end.result c.now-end.ensures.told (sym c.loop-count.invariant.live ∙ c.if-is_live.true)
    known c.put_end-then-is_some.new.sink c.put_end-then-is_some.result c.is_live-is_live.result
    c.is_live-is_live.ensures
    c.put_end-then-is_some.ensures.ok
    c.put_end-then-is_some.ensures.err
