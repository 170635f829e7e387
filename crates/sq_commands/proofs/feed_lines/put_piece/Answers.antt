use Rattle.std.proofs.Common.{◌≡◌, ◌∙◌, ◌+◌, ◌-◌, ◌++◌, ℕ, List, [], ◌∷◌, append-nil, arith, drop, length, refl, subst, sym, take}
use Rattle.std.proofs.lemmas.List.{take_all}
use Rattle.sq_devices.specs.Calls.{HasPut}
use Rattle.sq_devices.specs.Device.{WroteFront}
use Rattle.sq_feed.specs.Feeds.{HasTold, stored}
use Rattle.sq_feed.proofs.Feeding.{told_nothing, told_piece, within_rest}
use Rattle.sq_feed.proofs.Sourced.{ended_step, work_left}
use Rattle.sq_feed.proofs.Watching.{watched_none, watched_on}
use Rattle.sq_feed.specs.Units.{watched_all}
use Rattle.sq_commands.specs.Feed.{HasLined, HasPutSorted}
use Rattle.sq_commands.proofs.Sortings.{lined_front, lined_more, lined_nothing, lined_part, lined_put, put_more}
use Rattle.sq_commands.proofs.Sortings.{put_nothing, put_part_more, stopped_before}
use Rattle.sq_commands.proofs.feed_lines.put_piece.Goals as goal

pub loop-slot-init : goal.loop-slot-init
loop-slot-init g c =
    let k = g.K.Sink in
    let order = c.args.order.now in
    let sink = c.args.sink.now in
    let lined = HasLined k sink sink [] c.clear.new.self.bytes in
    record {
      within = omega arith;
      ended = λ _ has. has;
      told = (
        [],
        told_nothing c.args.arrival c.args.feed.now,
        (
          put_nothing order lined c.requires
              (subst (λ text. HasLined k sink sink text c.clear.new.self.bytes []) c.clear.ensures
              (lined_nothing k sink c.clear.new.self.bytes)),
          sym (watched_none c.args.units.now),
        ),
      );
      unfinished = refl;
    }

-- the line of a squitter was made, or of those that it made due
pub loop-slot-preserved-in-Ok : goal.loop-slot-preserved-in-Ok
loop-slot-preserved-in-Ok g c =
    let k = g.K.Sink in
    let l = c.loop-slot in
    let piece : List ℕ = c.args.piece.now in
    let n : ℕ = c.step_into-step.result.taken in
    let next = c.step_into-step.new.self in
    let slot = c.step_into-step.new.into in
    let (before, told, (put, seen)) = l.invariant.told in
    let old = c.args.sink.now in
    let new = c.put_squitter.new.sink in
    let first = c.args.order.now in
    let last = c.put_squitter.new.order in
    let P = HasLined k old l.sink [] l.text.bytes in
    let Q = HasLined k l.sink new l.text.bytes c.put_squitter.new.text.bytes in
    let R = HasLined k old new [] c.put_squitter.new.text.bytes in
    record {
      within = within_rest piece l.at n l.invariant.within c.step_into-step.ensures.fits;
      ended = λ none has. ended_step l.feed next (l.invariant.ended none has)
          (work_left (length piece - l.at) _ (c.goes_on.ensures.more c.loop-slot-test.true) (omega (arith, none)))
          c.step_into-step.ensures.ended c.step_into-step.ensures.ready;
      told = (
        before ++ slot ∷ [],
        told_piece c.args.arrival c.args.feed.now l.feed next piece l.at n before (slot ∷ []) told
            (subst (λ b. HasTold c.args.arrival l.feed (take n (take (length piece - l.at) (drop l.at piece)))
            (stored b slot) next) c.if-step.true c.step_into-step.ensures.told),
        (
          put_more first l.order last before (slot ∷ []) P Q R
              (λ x y. lined_more k old l.sink new [] l.text.bytes c.put_squitter.new.text.bytes x y) put
              c.in-Ok.ensures.put,
          watched_on c.args.units.now l.units c.hear_frame.new.self before (slot ∷ []) slot seen c.hear_frame.ensures
              refl,
        ),
      );
      unfinished = c.put_squitter.ensures.unfinished ∙ l.invariant.unfinished;
    }

-- a prefix of the lines was put
pub returns-in-Err-clause-part : goal.returns-in-Err-clause-part
returns-in-Err-clause-part g c =
    let k = g.K.Sink in
    let l = c.loop-slot in
    let piece : List ℕ = c.args.piece.now in
    let n : ℕ = c.step_into-step.result.taken in
    let next = c.step_into-step.new.self in
    let slot = c.step_into-step.new.into in
    let (before, told, (put, seen)) = l.invariant.told in
    let old = c.args.sink.now in
    let after = k.written c.put_squitter.new.sink in
    let first = c.args.order.now in
    let P = HasLined k old l.sink [] l.text.bytes in
    let Q = λ (y : List ℕ). WroteFront (k.written l.sink) after (l.text.bytes ++ y) in
    let R = WroteFront (k.written old) after in (
      l.at + n,
      (
        before ++ slot ∷ [],
        told_piece c.args.arrival c.args.feed.now l.feed next piece l.at n before (slot ∷ []) told
            (subst (λ b. HasTold c.args.arrival l.feed (take n (take (length piece - l.at) (drop l.at piece)))
            (stored b slot) next) c.if-step.true c.step_into-step.ensures.told),
        put_part_more first l.order before (slot ∷ []) P Q R
            (λ x y. lined_part k old l.sink after [] l.text.bytes x y) put c.in-Err.ensures.part,
      ),
    )

-- no squitter came
pub loop-slot-preserved : goal.loop-slot-preserved
loop-slot-preserved g c =
    let k = g.K.Sink in
    let l = c.loop-slot in
    let piece : List ℕ = c.args.piece.now in
    let n : ℕ = c.step_into-step.result.taken in
    let next = c.step_into-step.new.self in
    let slot = c.step_into-step.new.into in
    let (before, told, (put, seen)) = l.invariant.told in
    let P = HasLined k c.args.sink.now l.sink [] l.text.bytes in
    record {
      within = within_rest piece l.at n l.invariant.within c.step_into-step.ensures.fits;
      ended = λ none has. ended_step l.feed next (l.invariant.ended none has)
          (work_left (length piece - l.at) _ (c.goes_on.ensures.more c.loop-slot-test.true) (omega (arith, none)))
          c.step_into-step.ensures.ended c.step_into-step.ensures.ready;
      told = (
        before ++ [],
        told_piece c.args.arrival c.args.feed.now l.feed next piece l.at n before [] told
            (subst (λ b. HasTold c.args.arrival l.feed (take n (take (length piece - l.at) (drop l.at piece)))
            (stored b slot) next) c.if-step.false c.step_into-step.ensures.told),
        subst (λ x. HasPutSorted c.args.order.now l.order x P × (l.units ≡ watched_all c.args.units.now x))
            (sym (append-nil before)) (put, seen),
      );
      unfinished = l.invariant.unfinished;
    }

-- the whole piece was taken
pub returns-in-Ok-put_all-clause-put : goal.returns-in-Ok-put_all-clause-put
returns-in-Ok-put_all-clause-put g c =
    let k = g.K.Sink in
    let l = c.loop-slot in
    let piece : List ℕ = c.args.piece.now in
    let old = c.args.sink.now in
    let new = c.put_all.new.sink in
    let whole : take l.at piece ≡ piece =
    take_all l.at piece (omega (arith, (c.goes_on.ensures.done c.loop-slot-test.false).0)) in
    let (came, told, ((goes, fine, lined), seen)) = l.invariant.told in (
      came,
      subst (λ bs. HasTold c.args.arrival c.args.feed.now bs came l.feed) whole told,
      (
        (
          goes,
          fine,
          lined_put k old l.sink new l.text.bytes _ lined
              (subst (HasPut k l.sink new) c.as_bytes.ensures.value c.in-Ok-put_all.ensures.put),
        ),
        seen,
      ),
    )

pub returns-in-Err-put_all-clause-part : goal.returns-in-Err-put_all-clause-part
returns-in-Err-put_all-clause-part g c =
    let k = g.K.Sink in
    let l = c.loop-slot in
    let after = k.written c.put_all.new.sink in
    let (came, told, ((goes, fine, lined), seen)) = l.invariant.told in (
      l.at,
      (
        came,
        told,
        lined_front k c.args.sink.now l.sink after l.text.bytes _ lined
            (subst (WroteFront (k.written l.sink) after) c.as_bytes.ensures.value c.in-Err-put_all.ensures.part),
      ),
    )

pub returns-in-Err-clause-stopped : goal.returns-in-Err-clause-stopped
returns-in-Err-clause-stopped g c =
    let l = c.loop-slot in
    let (came, told, ((goes, fine, lined), seen)) = l.invariant.told in
    stopped_before c.args.order.now l.order came (g.K.Sink.has_failed c.put_squitter.new.sink) c.in-Err.fault goes
    c.in-Err.ensures.stopped
