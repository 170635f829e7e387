use Rattle.std.proofs.Common.{[], ◌∙◌, arith, sym}
use Rattle.sq_feed.proofs.Ordering.{back_here, back_later}
use Rattle.sq_feed.proofs.order.place_of.Goals as goal

pub loop-at-preserved : goal.loop-at-preserved
loop-at-preserved c = record {
  within = omega (arith, c.loop-at.invariant.within);
  same = c.loop-at.invariant.same
      ∙ back_later c.args.moment c.loop-at.at c.args.held.now (record { moment = 0; frame = [] }) c.loop-at-test.true
      c.loop-at.invariant.within c.if-moment-held.true;
}

pub returns-else-moment-held-clause-value : goal.returns-else-moment-held-clause-value
returns-else-moment-held-clause-value c =
    sym (c.loop-at.invariant.same
    ∙ back_here c.args.moment c.loop-at.at c.args.held.now (record { moment = 0; frame = [] }) c.loop-at-test.true
    c.loop-at.invariant.within c.if-moment-held.false)
