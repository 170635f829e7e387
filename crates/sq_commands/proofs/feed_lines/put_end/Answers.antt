use Rattle.std.proofs.Common.{◌≡◌, ◌∙◌, ◌++◌, ℕ, List, ap, ap₂, subst}
use Rattle.sq_devices.specs.Changes.{WroteLast, written_on}
use Rattle.sq_feed.specs.Ears.{Hears, ear_after_all, ear_ended, told_ended, told_of_all}
use Rattle.sq_feed.specs.Feeds.{Feeding, HasClosedFeed, told_at_end}
use Rattle.sq_feed.specs.Units.{watched_all}
use Rattle.sq_feed.specs.declared.message.Found.{Found}
use Rattle.sq_feed.proofs.Sourced.{closed_items}
use Rattle.sq_commands.specs.Feed.{HasPutLast, WrotePart, end_by}
use Rattle.sq_commands.proofs.feed_lines.put_end.Goals as goal

-- the squitters after the end of the source are its last ones
last_same : (arrival : ℕ) (old closed : Feeding) → HasClosedFeed old closed
    → told_at_end arrival closed ≡ told_at_end arrival old
last_same arrival old closed is =
    ap₂ (λ (k : Hears) (l : List Found). told_of_all arrival k l ++ told_ended (ear_after_all arrival k l)) is.same_ear
    (closed_items old.reader closed.reader is.closed)

pub returns-in-Ok-clause-ok : goal.returns-in-Ok-clause-ok
returns-in-Ok-clause-ok g c =
    let old = c.args.feed.now in
    let arrival = c.args.arrival in
    let closed = c.close.new.self in
    let last = last_same arrival old closed c.close.ensures.closed in
    let heard = c.in-Ok.ensures.heard
    ∙ ap₂ (λ (k : Hears) (l : List Found). ear_ended (ear_after_all arrival k l)) c.close.ensures.closed.same_ear
    (closed_items old.reader closed.reader c.close.ensures.closed.closed) in
    let seen = c.in-Ok.ensures.watched ∙ ap (watched_all c.args.units.now) last in (
      c.end_now.ensures ∙ ap₂ (end_by c.args.is_live) seen heard,
      subst (λ l. HasPutLast c.args.order.now l
          (WroteLast (written_on g.K.Sink c.args.sink.now c.put_last_squitters.new.sink))) last c.in-Ok.ensures.ok,
    )

pub returns-in-Err-clause-err : goal.returns-in-Err-clause-err
returns-in-Err-clause-err g c = (
  c.in-Err.ensures.err.0,
  subst (λ l. HasPutLast c.args.order.now l
      (WrotePart (written_on g.K.Sink c.args.sink.now c.put_last_squitters.new.sink)))
      (last_same c.args.arrival c.args.feed.now c.close.new.self c.close.ensures.closed) c.in-Err.ensures.err.1,
)
