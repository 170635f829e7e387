use Rattle.std.proofs.Common.{◌≡◌, ◌++◌, ◌∙◌, ap, append_assoc, subst, sym}
use Rattle.sq_devices.specs.Device.{WroteFront}
use Rattle.sq_feed.specs.Feeds.{lines_of}
use Rattle.sq_feed.specs.Orders.{Sorting, given_now, settled, with_one}
use Rattle.sq_feed.proofs.Feeding.{lines_of-append}
use Rattle.sq_commands.specs.Feed.{HasLined}
use Rattle.sq_commands.proofs.Sortings.{lined_begun, lined_more, lined_part, wrote_front_more}
use Rattle.sq_commands.proofs.feed_lines.put_in_order.Goals as goal

-- a prefix of the lines that were due before was put
pub returns-in-Err-clause-part : goal.returns-in-Err-clause-part
returns-in-Err-clause-part g c =
    let k = g.K.Sink in
    let before = k.written c.args.sink.now in
    let after = k.written c.put_due.new.sink in
    let text = c.args.text.now.bytes in
    let due = given_now c.args.order.now in
    let next = given_now (with_one c.args.one.now (settled c.args.order.now)) in
    subst (WroteFront before after)
    (append_assoc text (lines_of due) (lines_of next) ∙ ap (λ x. text ++ x) (sym (lines_of-append due next)))
    (wrote_front_more before after (text ++ lines_of due) (lines_of next) c.in-Err.ensures.part)

-- there was no memory for the squitter
pub returns-in-Err-put-clause-part : goal.returns-in-Err-put-clause-part
returns-in-Err-put-clause-part g c =
    let k = g.K.Sink in
    let one = c.put_due.new in
    let text = c.args.text.now.bytes in
    let due = given_now c.args.order.now in
    let next = given_now (with_one c.args.one.now (settled c.args.order.now)) in
    subst (λ x. WroteFront (k.written c.args.sink.now) (k.written one.sink) (text ++ x))
    (sym (lines_of-append due next))
    (lined_begun k c.args.sink.now one.sink text one.text.bytes (lines_of due) (lines_of next) c.in-Ok.ensures.put)

pub returns-in-Ok-put_due-clause-put : goal.returns-in-Ok-put_due-clause-put
returns-in-Ok-put_due-clause-put g c =
    let k = g.K.Sink in
    let one = c.put_due.new in
    let two = c.put_due-2.new in
    let text = c.args.text.now.bytes in
    let due = given_now c.args.order.now in
    let state = with_one c.args.one.now (settled c.args.order.now) in
    let same : c.put.new.self ≡ state =
    c.in-Ok-put.ensures.ok ∙ ap (with_one c.args.one.now) c.in-Ok.ensures.sorted in
    subst (HasLined k c.args.sink.now two.sink text two.text.bytes) (sym (lines_of-append due (given_now state)))
    (lined_more k c.args.sink.now one.sink two.sink text one.text.bytes two.text.bytes (lines_of due)
    (lines_of (given_now state)) c.in-Ok.ensures.put
    (subst (λ (s : Sorting). HasLined k one.sink two.sink one.text.bytes two.text.bytes (lines_of (given_now s))) same
    c.in-Ok-put_due.ensures.put))

-- a prefix of all lines was put
pub returns-in-Err-put_due-clause-part : goal.returns-in-Err-put_due-clause-part
returns-in-Err-put_due-clause-part g c =
    let k = g.K.Sink in
    let one = c.put_due.new in
    let after = k.written c.put_due-2.new.sink in
    let text = c.args.text.now.bytes in
    let due = given_now c.args.order.now in
    let state = with_one c.args.one.now (settled c.args.order.now) in
    let same : c.put.new.self ≡ state =
    c.in-Ok-put.ensures.ok ∙ ap (with_one c.args.one.now) c.in-Ok.ensures.sorted in
    subst (λ x. WroteFront (k.written c.args.sink.now) after (text ++ x)) (sym (lines_of-append due (given_now state)))
    (lined_part k c.args.sink.now one.sink after text one.text.bytes (lines_of due) (lines_of (given_now state))
    c.in-Ok.ensures.put
    (subst (λ (s : Sorting). WroteFront (k.written one.sink) after (one.text.bytes ++ lines_of (given_now s))) same
    c.in-Err-put_due.ensures.part))
