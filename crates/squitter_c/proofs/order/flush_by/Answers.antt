use Rattle.std.proofs.Common.{◌<◌, ◌∙◌, arith, length, length-set, subst, sym}
use Rattle.sq_feed.specs.Orders.{HasFlushed}
use Rattle.sq_feed.proofs.Ordering.{flushed_more}
use Rattle.squitter_c.proofs.Columns.{rest_set, squitters_set}
use Rattle.squitter_c.proofs.order.flush_by.Goals as goal

pub loop-written-preserved : goal.loop-written-preserved
loop-written-preserved c =
    let l = c.loop-written in
    let slot = c.flush_into.new.into in
    let fits : l.written < length l.out_moments =
    omega (arith, c.loop-written-test.true, c.min-room.ensures, l.invariant.long.0) in
    let fit : l.written < length l.out_frames =
    omega (arith, c.loop-written-test.true, c.min-room.ensures, l.invariant.long.1) in
    record {
      few = omega (arith, c.loop-written-test.true);
      given = subst (λ t. HasFlushed c.args.order.now t c.flush_into.new.self)
          (sym (squitters_set l.out_moments l.out_frames l.written slot fits fit))
          (flushed_more c.args.order.now l.order c.flush_into.new.self _ slot l.invariant.given
          c.if-flush_into.ensures.given);
      rest = (
        rest_set l.out_moments c.args.out_moments.now l.written slot.moment l.invariant.rest.0,
        rest_set l.out_frames c.args.out_frames.now l.written slot.frame l.invariant.rest.1,
      );
      long = (
        length-set l.out_moments l.written slot.moment ∙ l.invariant.long.0,
        length-set l.out_frames l.written slot.frame ∙ l.invariant.long.1,
      );
    }
