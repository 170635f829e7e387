use Rattle.std.proofs.Common.{◌≡◌, ◌++◌, ◌∙◌, [], ◌∷◌, ap, append-nil, refl, subst, sym}
use Rattle.std.proofs.lemmas.Result.{err_from_is_err_and}
use Rattle.sq_devices.specs.Calls.{HasPut}
use Rattle.sq_devices.specs.Device.{WroteFront}
use Rattle.sq_feed.specs.Feeds.{lines_of}
use Rattle.sq_feed.proofs.Feeding.{lines_of-append}
use Rattle.sq_feed.proofs.Ordering.{flushed_more}
use Rattle.sq_commands.specs.Feed.{HasLined}
use Rattle.sq_commands.proofs.Sortings.{flushed_front, lined_front, lined_more, lined_part, lined_put, on_err, on_ok}
use Rattle.sq_commands.proofs.feed_lines.put_held.Goals as goal

pub loop-slot-preserved : goal.loop-slot-preserved
loop-slot-preserved g c =
    let k = g.K.Sink in
    let l = c.loop-slot in
    let one = c.flush_into.new.into in
    let (given, flushed, lined) = l.invariant.given in
    record {
      given = (
        given ++ one ∷ [],
        flushed_more c.args.order.now l.order c.flush_into.new.self given one flushed c.loop-slot-test.ensures.given,
        subst (HasLined k c.args.sink.now c.put_line.new.sink [] c.put_line.new.text.bytes)
            (sym (lines_of-append given (one ∷ [])))
            (lined_more k c.args.sink.now l.sink c.put_line.new.sink [] l.text.bytes c.put_line.new.text.bytes
            (lines_of given) (lines_of (one ∷ [])) lined c.in_ok-put_line.ensures.put),
      );
      unfinished = c.put_line.ensures.unfinished ∙ l.invariant.unfinished;
    }

-- a prefix of the lines was put
pub returns-in_err-put_line-clause-part : goal.returns-in_err-put_line-clause-part
returns-in_err-put_line-clause-part g c =
    let k = g.K.Sink in
    let l = c.loop-slot in
    let one = c.flush_into.new.into in
    let before = k.written c.args.sink.now in
    let after = k.written c.put_line.new.sink in
    let (given, flushed, lined) = l.invariant.given in
    let p = err_from_is_err_and c.from_residual.result c.from_residual.ensures.1 in
    rw (p.1) (flushed_front c.args.order.now c.flush_into.new.self (given ++ one ∷ []) before after
    (flushed_more c.args.order.now l.order c.flush_into.new.self given one flushed c.loop-slot-test.ensures.given)
    (subst (WroteFront before after) (sym (lines_of-append given (one ∷ [])))
    (lined_part k c.args.sink.now l.sink after [] l.text.bytes (lines_of given) (lines_of (one ∷ [])) lined
    c.in_err-put_line.ensures.part)))

-- none is held any more
pub returns-clause-put : goal.returns-clause-put
returns-clause-put g c =
    let k = g.K.Sink in
    let l = c.loop-slot in
    let new = c.put_all.new.sink in
    let (given, flushed, lined) = l.invariant.given in
    let all : given ≡ c.args.order.now.held =
    sym (append-nil given) ∙ ap (λ x. given ++ x) (sym (c.loop-slot-test.ensures.none refl)) ∙ flushed.held in
    on_ok c.put_all.result
    (λ put. subst (λ x. HasPut k c.args.sink.now new (lines_of x)) all
    (lined_put k c.args.sink.now l.sink new l.text.bytes (lines_of given) lined
    (subst (HasPut k l.sink new) c.as_bytes.ensures.value put)))
    c.put_all.ensures.put

pub returns-clause-part : goal.returns-clause-part
returns-clause-part g c =
    let k = g.K.Sink in
    let l = c.loop-slot in
    let after = k.written c.put_all.new.sink in
    let (given, flushed, lined) = l.invariant.given in
    let all : given ≡ c.args.order.now.held =
    sym (append-nil given) ∙ ap (λ x. given ++ x) (sym (c.loop-slot-test.ensures.none refl)) ∙ flushed.held in
    on_err c.put_all.result
    (λ part. subst (λ x. WroteFront (k.written c.args.sink.now) after (lines_of x)) all
    (lined_front k c.args.sink.now l.sink after l.text.bytes (lines_of given) lined
    (subst (WroteFront (k.written l.sink) after) c.as_bytes.ensures.value part)))
    c.put_all.ensures.part
