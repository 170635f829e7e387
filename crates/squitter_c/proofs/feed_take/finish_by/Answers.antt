use Rattle.std.proofs.Common.{◌≡◌, ◌+◌, ◌∙◌, ◌++◌, ℕ, [], ap, ap₂, arith, length, refl, subst, sym, take, true, drop, ◌<◌, false}
use Rattle.std.proofs.Common.{length-append}
use Rattle.std.proofs.lemmas.List.{length-take-le}
use Rattle.sq_feed.specs.Feeds.{HasTold, steps_left}
use Rattle.sq_feed.proofs.Sourced.{work_left}
use Rattle.squitter_c.specs.FeedCalls.{IsFilled, squitters_of}
use Rattle.squitter_c.proofs.Halves.{joined_filled, joined_squitters, joined_take}
use Rattle.squitter_c.proofs.feed_take.finish_by.Goals as goal

-- all items were given: the rows that waited too
pub returns : goal.returns
returns c =
    let arrival = c.args.arrival in
    let closed = c.close.new.self in
    let one = c.take_by-first in
    let two = c.take_by-second in
    let w : ℕ = one.result.written in
    let v : ℕ = two.result.written in
    let ms = one.new.moments in
    let fs = one.new.frames in
    let ns = two.new.moments in
    let gs = two.new.frames in
    let none : one.result.taken ≡ 0 = omega (arith, one.ensures.taken) in
    let nothing : two.result.taken ≡ 0 = omega (arith, two.ensures.taken) in
    let first = squitters_of (take w ms) (take w fs) in
    let second = squitters_of (take v ns) (take v gs) in
    let ms_two : IsFilled (drop w ms) ns v =
    subst (λ l. IsFilled l ns v) c.split_at_mut-more_moments.ensures.back two.ensures.moments_filled in
    let fs_two : IsFilled (drop w fs) gs v =
    subst (λ l. IsFilled l gs v) c.split_at_mut-more_frames.ensures.back two.ensures.frames_filled in
    let ms_is = ap (λ l. l ++ ns) (sym c.split_at_mut-more_moments.ensures.front) in
    let fs_is = ap (λ l. l ++ gs) (sym c.split_at_mut-more_frames.ensures.front) in
    let ms_all = joined_filled c.args.moments.now ms ns w v one.ensures.moments_filled ms_two in
    let fs_all = joined_filled c.args.frames.now fs gs w v one.ensures.frames_filled fs_two in
    let told : squitters_of (take (w + v) (take w ms ++ ns)) (take (w + v) (take w fs ++ gs)) ≡ first ++ second =
    ap₂ squitters_of (joined_take c.args.moments.now ms ns w v one.ensures.moments_filled ms_two)
    (joined_take c.args.frames.now fs gs w v one.ensures.frames_filled fs_two)
    ∙ joined_squitters ms ns fs gs w v one.ensures.moments_filled.fits one.ensures.frames_filled.fits in
    record {
      closed = closed;
      ended = c.close.ensures.closed;
      taken = refl;
      settled = true;
      given = (
        one.new.feed,
        c.settle.new.self,
        first,
        second,
        subst (λ n. HasTold arrival closed (take n []) first one.new.feed) none one.ensures.given,
        (c.goes_on.ensures.done c.if-goes_on.false).1,
        c.settle.ensures,
        subst (λ n. HasTold arrival c.settle.new.self (take n []) second two.new.feed) nothing two.ensures.given,
        ap₂ (λ x y. squitters_of (take (w + v) x) (take (w + v) y)) (sym ms_is) (sym fs_is) ∙ told,
      );
      all = λ room slot. (
        refl,
        (two.ensures.all
            (omega (
              arith,
              subst (λ l. w + v < length l) (sym ms_is) room,
              length-append (take w ms) ns,
              length-take-le w ms one.ensures.moments_filled.fits,
            ))
            (omega (
              arith,
              subst (λ l. w + v < length l) (sym fs_is) slot,
              length-append (take w fs) gs,
              length-take-le w fs one.ensures.frames_filled.fits,
            ))).1,
      );
      moments_filled = subst (λ l. IsFilled c.args.moments.now l (w + v)) ms_is ms_all;
      frames_filled = subst (λ l. IsFilled c.args.frames.now l (w + v)) fs_is fs_all;
    }

-- there was no room for all last items
pub returns-then-goes_on : goal.returns-then-goes_on
returns-then-goes_on c =
    let arrival = c.args.arrival in
    let closed = c.close.new.self in
    let one = c.take_by-first in
    let told = squitters_of (take one.result.written one.new.moments) (take one.result.written one.new.frames) in
    let none : one.result.taken ≡ 0 = omega (arith, one.ensures.taken) in
    let some = work_left 0 (steps_left one.new.feed) (c.goes_on.ensures.more c.if-goes_on.true) refl in
    record {
      closed = closed;
      ended = c.close.ensures.closed;
      taken = none;
      settled = false;
      given = subst (λ n. HasTold arrival closed (take n []) told one.new.feed) none one.ensures.given;
      all = λ room slot. let done = (one.ensures.all room slot).1 in absurd (omega (arith, some, done));
      moments_filled = one.ensures.moments_filled;
      frames_filled = one.ensures.frames_filled;
    }
