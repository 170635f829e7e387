use Rattle.std.proofs.Common.{◌++◌, ◌∙◌, [], ◌∷◌, refl, subst, sym}
use Rattle.std.proofs.lemmas.Result.{err_from_is_err_and}
use Rattle.sq_devices.specs.Device.{WroteFront}
use Rattle.sq_feed.specs.Feeds.{lines_of}
use Rattle.sq_feed.proofs.Feeding.{lines_of-append}
use Rattle.sq_feed.proofs.Ordering.{flushed_none, sorted_end, sorted_give}
use Rattle.sq_commands.specs.Feed.{HasLined}
use Rattle.sq_commands.proofs.Sortings.{lined_more, lined_part, part_given}
use Rattle.sq_commands.proofs.feed_lines.put_due.Goals as goal

pub loop-slot-preserved : goal.loop-slot-preserved
loop-slot-preserved g c =
    let k = g.K.Sink in
    let l = c.loop-slot in
    let one = c.give_into.new.into in
    let (given, sorts, lined) = l.invariant.given in
    record {
      given = (
        given ++ one ∷ [],
        sorted_give c.args.order.now l.order c.give_into.new.self [] given one sorts
            (sym c.loop-slot-test.ensures.due) c.loop-slot-test.ensures.given,
        subst (HasLined k c.args.sink.now c.put_line.new.sink c.args.text.now.bytes c.put_line.new.text.bytes)
            (sym (lines_of-append given (one ∷ [])))
            (lined_more k c.args.sink.now l.sink c.put_line.new.sink c.args.text.now.bytes l.text.bytes
            c.put_line.new.text.bytes (lines_of given) (lines_of (one ∷ [])) lined c.in_ok-put_line.ensures.put),
      );
      unfinished = c.put_line.ensures.unfinished ∙ l.invariant.unfinished;
    }

-- a prefix of the lines was put
pub returns-in_err-put_line-clause-part : goal.returns-in_err-put_line-clause-part
returns-in_err-put_line-clause-part g c =
    let k = g.K.Sink in
    let l = c.loop-slot in
    let one = c.give_into.new.into in
    let before = k.written c.args.sink.now in
    let after = k.written c.put_line.new.sink in
    let text = c.args.text.now.bytes in
    let (given, sorts, lined) = l.invariant.given in
    let p = err_from_is_err_and c.from_residual.result c.from_residual.ensures.1 in
    rw (p.1) (part_given c.args.order.now c.give_into.new.self [] [] [] (given ++ one ∷ []) text before after refl
    (sorted_give c.args.order.now l.order c.give_into.new.self [] given one sorts
    (sym c.loop-slot-test.ensures.due) c.loop-slot-test.ensures.given)
    (subst (λ x. WroteFront before after (text ++ x)) (sym (lines_of-append given (one ∷ [])))
    (lined_part k c.args.sink.now l.sink after text l.text.bytes (lines_of given) (lines_of (one ∷ [])) lined
    c.in_err-put_line.ensures.part)))

-- none is due any more
pub returns-clause-sorted : goal.returns-clause-sorted
returns-clause-sorted g c =
    let l = c.loop-slot in
    let (given, sorts, lined) = l.invariant.given in
    flushed_none l.order c.give_into.new.self c.loop-slot-test.ensures.given
    ∙ (sorted_end c.args.order.now l.order [] given sorts (sym c.loop-slot-test.ensures.due)).1

pub returns-clause-put : goal.returns-clause-put
returns-clause-put g c =
    let l = c.loop-slot in
    let (given, sorts, lined) = l.invariant.given in
    subst (λ x. HasLined g.K.Sink c.args.sink.now l.sink c.args.text.now.bytes l.text.bytes (lines_of x))
    (sorted_end c.args.order.now l.order [] given sorts (sym c.loop-slot-test.ensures.due)).0 lined
