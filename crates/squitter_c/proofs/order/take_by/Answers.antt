use Rattle.std.proofs.Common.{◌≡◌, ◌<◌, ◌+◌, ◌∙◌, [], ap, arith, get_or, length, length-set, subst, sym, take, true≢false}
use Rattle.sq_feed.specs.declared.message.Timed.{Timed}
use Rattle.sq_feed.specs.Orders.{HasSorted, with_one}
use Rattle.sq_feed.proofs.Ordering.{flushed_none, sorted_give, sorted_put}
use Rattle.squitter_c.specs.FeedCalls.{squitters_of}
use Rattle.squitter_c.proofs.Columns.{rest_set, squitters_more, squitters_set}
use Rattle.squitter_c.proofs.order.take_by.Goals as goal
use Rattle.squitter_c.proofs.order.take_by.Goals.{then-taken-count, else-taken-count}

-- a squitter was due
pub loop-written-preserved-then-give_into : goal.loop-written-preserved-then-give_into
loop-written-preserved-then-give_into c =
    let l = c.loop-written in
    let slot = c.give_into.new.into in
    let came = squitters_of (take l.taken c.args.moments.now) (take l.taken c.args.frames.now) in
    let fits : l.written < length l.out_moments =
    omega (arith, c.loop-written-test.true, c.min-room.ensures, l.invariant.long.0) in
    let fit : l.written < length l.out_frames =
    omega (arith, c.loop-written-test.true, c.min-room.ensures, l.invariant.long.1) in
    record {
      taken = l.invariant.taken;
      few = omega (arith, c.loop-written-test.true);
      given = subst (λ t. HasSorted c.args.order.now came t c.give_into.new.self)
          (sym (squitters_set l.out_moments l.out_frames l.written slot fits fit))
          (sorted_give c.args.order.now l.order c.give_into.new.self came _ slot l.invariant.given
          (sym c.if-give_into.ensures.due) c.if-give_into.ensures.given);
      rest = (
        rest_set l.out_moments c.args.out_moments.now l.written slot.moment l.invariant.rest.0,
        rest_set l.out_frames c.args.out_frames.now l.written slot.frame l.invariant.rest.1,
      );
      long = (
        length-set l.out_moments l.written slot.moment ∙ l.invariant.long.0,
        length-set l.out_frames l.written slot.frame ∙ l.invariant.long.1,
      );
    }

-- none was due, and one came
pub loop-written-preserved : goal.loop-written-preserved
loop-written-preserved c =
    let l = c.loop-written in
    let ms = c.args.moments.now in
    let fs = c.args.frames.now in
    let one : Timed = record { moment = get_or ms l.taken 0; frame = get_or fs l.taken [] } in
    let given = squitters_of (take l.written l.out_moments) (take l.written l.out_frames) in
    let came = squitters_of (take l.taken ms) (take l.taken fs) in
    let more : l.taken < c.min-count.result = elim c.if-taken-count.branch [
      | then-taken-count w ↦ w.if-taken-count.true
      | else-taken-count w ↦ absurd (true≢false
          (sym c.if-is_due.true ∙ w.value-is ∙ w.is_due.ensures ∙ sym c.if-give_into.ensures.due))
    ] in
    let fits : l.taken < length ms = omega (arith, more, c.min-count.ensures) in
    let fit : l.taken < length fs = omega (arith, more, c.min-count.ensures) in
    let same : c.put.new.self ≡ with_one one l.order =
    c.in-Ok.ensures.ok ∙ ap (with_one one) (flushed_none l.order c.give_into.new.self c.if-give_into.ensures.given) in
    record {
      taken = omega (arith, more);
      few = l.invariant.few;
      given = subst (λ s. HasSorted c.args.order.now
          (squitters_of (take (l.taken + 1) ms) (take (l.taken + 1) fs)) given s) (sym same)
          (subst (λ xs. HasSorted c.args.order.now xs given (with_one one l.order))
          (sym (squitters_more ms fs l.taken 0 [] fits fit))
          (sorted_put c.args.order.now l.order came given one l.invariant.given
          (sym c.if-give_into.ensures.due)));
      rest = l.invariant.rest;
      long = l.invariant.long;
    }
