use Rattle.std.proofs.Common.{◌≡◌, ◌≤◌, ◌+◌, ◌∙◌, ◌++◌, ℕ, ap, arith, drop, length, refl, subst, sym, take, true, [], false}
use Rattle.std.proofs.Common.{length-append}
use Rattle.std.proofs.lemmas.List.{length-take-le}
use Rattle.sq_feed.specs.Feeds.{HasTold, steps_left}
use Rattle.sq_feed.proofs.Sourced.{work_left}
use Rattle.squitter_c.specs.FeedCalls.{IsFilled}
use Rattle.squitter_c.proofs.Halves.{joined_filled, joined_lines, joined_take}
use Rattle.squitter_c.proofs.feed_text.finish_by.Goals as goal

-- all items were given: the rows that waited too
pub returns : goal.returns
returns c =
    let arrival = c.args.arrival in
    let closed = c.close.new.self in
    let one = c.take_by-first in
    let two = c.take_by-second in
    let w : ℕ = one.result.written in
    let v : ℕ = two.result.written in
    let front = one.new.out in
    let back = two.new.out in
    let none : one.result.taken ≡ 0 = omega (arith, one.ensures.taken) in
    let nothing : two.result.taken ≡ 0 = omega (arith, two.ensures.taken) in
    let filled : IsFilled (drop w front) back v =
    subst (λ l. IsFilled l back v) c.split_at_mut-more.ensures.back two.ensures.filled in
    let is = ap (λ l. l ++ back) (sym c.split_at_mut-more.ensures.front) in
    record {
      closed = closed;
      ended = c.close.ensures.closed;
      taken = refl;
      settled = true;
      told = one.ensures.told ++ two.ensures.told;
      given = (
        one.new.feed,
        c.settle.new.self,
        one.ensures.told,
        two.ensures.told,
        subst (λ n. HasTold arrival closed (take n []) one.ensures.told one.new.feed) none one.ensures.given,
        (c.goes_on.ensures.done c.if-goes_on.false).1,
        c.settle.ensures,
        subst (λ n. HasTold arrival c.settle.new.self (take n []) two.ensures.told two.new.feed) nothing
            two.ensures.given,
        refl,
      );
      written = ap (take (w + v)) (sym is) ∙ joined_take c.args.out.now front back w v one.ensures.filled filled
          ∙ joined_lines (take w front) (take v back) one.ensures.told two.ensures.told one.ensures.written
          two.ensures.written;
      all = λ room. (
        refl,
        (two.ensures.all
            (omega (
              arith,
              subst (λ l. w + v + 50 ≤ length l) (sym is) room,
              length-append (take w front) back,
              length-take-le w front one.ensures.filled.fits,
            ))).1,
      );
      filled = subst (λ l. IsFilled c.args.out.now l (w + v)) is
          (joined_filled c.args.out.now front back w v one.ensures.filled filled);
    }

-- there was no room for all last lines
pub returns-then-goes_on : goal.returns-then-goes_on
returns-then-goes_on c =
    let arrival = c.args.arrival in
    let closed = c.close.new.self in
    let one = c.take_by-first in
    let none : one.result.taken ≡ 0 = omega (arith, one.ensures.taken) in
    let some = work_left 0 (steps_left one.new.feed) (c.goes_on.ensures.more c.if-goes_on.true) refl in
    record {
      closed = closed;
      ended = c.close.ensures.closed;
      taken = none;
      settled = false;
      told = one.ensures.told;
      given = subst (λ n. HasTold arrival closed (take n []) one.ensures.told one.new.feed) none one.ensures.given;
      written = one.ensures.written;
      all = λ room. let done = (one.ensures.all room).1 in absurd (omega (arith, some, done));
      filled = one.ensures.filled;
    }
