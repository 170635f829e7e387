use Rattle.std.proofs.Common.{◌+◌, ◌-◌, ◌<◌, ◌∙◌, ℕ, List, [], ◌∷◌, append-nil, arith, drop, length, length-set, refl, subst, sym, take}
use Rattle.sq_feed.specs.Feeds.{HasTold, stored}
use Rattle.sq_feed.proofs.Feeding.{told_nothing, told_piece, within_rest}
use Rattle.squitter_c.specs.FeedCalls.{squitters_of}
use Rattle.squitter_c.proofs.Columns.{rest_set, squitters_set}
use Rattle.squitter_c.proofs.feed_take.take_by.Goals as goal

pub loop-slot-init : goal.loop-slot-init
loop-slot-init c = record {
  taken = omega arith;
  few = omega arith;
  given = told_nothing c.args.arrival c.args.feed.now;
  rest = (refl, refl);
  long = (refl, refl);
}

-- a squitter was stored
pub loop-slot-preserved-then-step : goal.loop-slot-preserved-then-step
loop-slot-preserved-then-step c =
    let l = c.loop-slot in
    let piece : List ℕ = c.args.piece.now in
    let n : ℕ = c.step_into-step.result.taken in
    let slot = c.step_into-step.new.into in
    let next = c.step_into-step.new.self in
    let rest = take (length piece - l.taken) (drop l.taken piece) in
    let told = squitters_of (take l.written l.moments) (take l.written l.frames) in
    let fits : l.written < length l.moments =
    omega (arith, c.if-written-room.true, c.min-room.ensures, l.invariant.long.0) in
    let fit : l.written < length l.frames =
    omega (arith, c.if-written-room.true, c.min-room.ensures, l.invariant.long.1) in
    record {
      taken = within_rest piece l.taken n l.invariant.taken c.step_into-step.ensures.fits;
      few = omega (arith, c.if-written-room.true);
      given = subst (λ t. HasTold c.args.arrival c.args.feed.now (take (l.taken + n) piece) t next)
          (sym (squitters_set l.moments l.frames l.written slot fits fit))
          (told_piece c.args.arrival c.args.feed.now l.feed next piece l.taken n told (slot ∷ []) l.invariant.given
          (subst (λ b. HasTold c.args.arrival l.feed (take n rest) (stored b slot) next) c.if-step.true
          c.step_into-step.ensures.told));
      rest = (
        rest_set l.moments c.args.moments.now l.written slot.moment l.invariant.rest.0,
        rest_set l.frames c.args.frames.now l.written slot.frame l.invariant.rest.1,
      );
      long = (
        length-set l.moments l.written slot.moment ∙ l.invariant.long.0,
        length-set l.frames l.written slot.frame ∙ l.invariant.long.1,
      );
    }

-- none was stored
pub loop-slot-preserved : goal.loop-slot-preserved
loop-slot-preserved c =
    let l = c.loop-slot in
    let piece : List ℕ = c.args.piece.now in
    let n : ℕ = c.step_into-step.result.taken in
    let slot = c.step_into-step.new.into in
    let next = c.step_into-step.new.self in
    let rest = take (length piece - l.taken) (drop l.taken piece) in
    let told = squitters_of (take l.written l.moments) (take l.written l.frames) in
    record {
      taken = within_rest piece l.taken n l.invariant.taken c.step_into-step.ensures.fits;
      few = l.invariant.few;
      given = subst (λ t. HasTold c.args.arrival c.args.feed.now (take (l.taken + n) piece) t next) (append-nil told)
          (told_piece c.args.arrival c.args.feed.now l.feed next piece l.taken n told [] l.invariant.given
          (subst (λ b. HasTold c.args.arrival l.feed (take n rest) (stored b slot) next) c.if-step.false
          c.step_into-step.ensures.told));
      rest = l.invariant.rest;
      long = l.invariant.long;
    }
