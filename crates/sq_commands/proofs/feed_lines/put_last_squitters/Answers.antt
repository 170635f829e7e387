use Rattle.std.proofs.Common.{◌∙◌, ◌+◌, ◌++◌, [], ap, append-nil, subst}
use Rattle.std.specs.Io.KnownBytes.{Appends}
use Rattle.std.proofs.KnownBytes.{Appends-trans}
use Rattle.sq_devices.specs.Calls.{HasPut, HasSent}
use Rattle.sq_devices.specs.Changes.{WroteLast, written_on}
use Rattle.sq_devices.specs.Device.{WroteFront}
use Rattle.sq_devices.proofs.Puts.{HasPut-trans}
use Rattle.sq_feed.specs.Feeds.{lines_of, told_at_end}
use Rattle.sq_commands.specs.Feed.{WrotePart, waiting_in}
use Rattle.sq_commands.proofs.Feeding.{sent_after, wrote_after}
use Rattle.sq_commands.proofs.Sortings.{last_part, last_put}
use Rattle.sq_commands.proofs.feed_lines.put_last_squitters.Goals as goal

-- a prefix of the lines of some was put
pub returns-in-Err-clause-err : goal.returns-in-Err-clause-err
returns-in-Err-clause-err g c =
    let k = g.K.Sink in
    let before = k.written c.args.sink.now in
    let after = k.written c.put_last_items.new.sink in (
      c.in-Err.ensures.stopped,
      last_part c.args.order.now (told_at_end c.args.arrival c.args.feed.now) before after
          (WrotePart (written_on k c.args.sink.now c.put_last_items.new.sink))
          (λ x wrote. (wrote, c.put_last_items.ensures.unfinished)) c.in-Err.ensures.part,
    )

-- a prefix of the lines of those that wait was put
pub returns-in-Err-put_waiting-clause-err : goal.returns-in-Err-put_waiting-clause-err
returns-in-Err-put_waiting-clause-err g c =
    let k = g.K.Sink in
    let before = k.written c.args.sink.now in
    let mid = c.put_last_items.new.sink in
    let order = c.put_last_items.new.order in
    let after = k.written c.put_waiting.new.sink in (
      c.in-Err-put_waiting.ensures.failed,
      last_put c.args.order.now order (told_at_end c.args.arrival c.args.feed.now) (HasPut k c.args.sink.now mid)
          (WrotePart (written_on k c.args.sink.now c.put_waiting.new.sink)) c.in-Ok.ensures.put
          (λ x put. (
            wrote_after before (k.written mid) after x (lines_of (waiting_in order)) put.0
                c.in-Err-put_waiting.ensures.part,
            c.put_waiting.ensures.unfinished ∙ c.put_last_items.ensures.unfinished,
          )),
    )

-- all lines were put
pub returns-in-Ok-put_last-clause-ok : goal.returns-in-Ok-put_last-clause-ok
returns-in-Ok-put_last-clause-ok g c =
    let k = g.K.Sink in
    let old = c.args.sink.now in
    let one = c.put_last_items.new.sink in
    let order = c.put_last_items.new.order in
    let mid = c.put_waiting.new.sink in
    let new = c.put_last.new.sink in
    let y = lines_of (waiting_in order) in
    last_put c.args.order.now order (told_at_end c.args.arrival c.args.feed.now) (HasPut k old one)
    (WroteLast (written_on k old new)) c.in-Ok.ensures.put
    (λ x put. let both = HasPut-trans k old one mid x y put c.in-Ok-put_waiting.ensures.put in
    let same = append-nil (x ++ y) in (
      (
        subst (Appends (k.written old) (k.written new)) same
            (Appends-trans (k.written old) (k.written mid) (k.written new) (x ++ y) [] both.0
            c.in-Ok-put_last.ensures.appended),
        subst (HasSent k old new) same (sent_after k old mid new (x ++ y) [] both
            c.in-Ok-put_last.ensures.sent),
      ),
      c.in-Ok-put_last.ensures.finished
          ∙ ap (λ n. n + 1) (c.put_waiting.ensures.unfinished ∙ c.put_last_items.ensures.unfinished),
    ))

-- the sink failed after them
pub returns-in-Err-put_last-clause-err : goal.returns-in-Err-put_last-clause-err
returns-in-Err-put_last-clause-err g c =
    let k = g.K.Sink in
    let old = c.args.sink.now in
    let one = c.put_last_items.new.sink in
    let order = c.put_last_items.new.order in
    let mid = c.put_waiting.new.sink in
    let new = c.put_last.new.sink in
    let y = lines_of (waiting_in order) in (
      c.in-Err-put_last.ensures.failed,
      last_put c.args.order.now order (told_at_end c.args.arrival c.args.feed.now) (HasPut k old one)
          (WrotePart (written_on k old new)) c.in-Ok.ensures.put
          (λ x put. let both = HasPut-trans k old one mid x y put c.in-Ok-put_waiting.ensures.put in (
            subst (WroteFront (k.written old) (k.written new)) (append-nil (x ++ y))
                (wrote_after (k.written old) (k.written mid) (k.written new) (x ++ y) [] both.0
                c.in-Err-put_last.ensures.part),
            c.in-Err-put_last.ensures.unfinished ∙ c.put_waiting.ensures.unfinished
                ∙ c.put_last_items.ensures.unfinished,
          )),
    )
