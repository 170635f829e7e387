use Rattle.std.proofs.Common.{◌≡◌, ◌∙◌, ◌++◌, [], ap, ap₂, append-nil, refl, subst, sym, take}
use Rattle.sq_devices.specs.Calls.{HasPut}
use Rattle.sq_devices.specs.Device.{WroteFront}
use Rattle.sq_devices.proofs.Puts.{HasPut-trans}
use Rattle.sq_feed.specs.Ears.{ear_after_all, ear_ended, told_ended, told_of_all}
use Rattle.sq_feed.specs.Feeds.{ear_at_last}
use Rattle.sq_feed.specs.Readers.{awaited}
use Rattle.sq_feed.proofs.Sourced.{all_given, nothing_left}
use Rattle.sq_feed.proofs.Waiting.{no_calls, none_ready}
use Rattle.sq_feed.proofs.Watching.{watched_more}
use Rattle.sq_feed.specs.Units.{watched_all}
use Rattle.sq_commands.specs.Feed.{HasPutPart, HasPutSorted}
use Rattle.sq_commands.proofs.Feeding.{fed_text, take_nothing, told_of_front, told_settled, wrote_after}
use Rattle.sq_commands.proofs.Sortings.{both_ok, fed_part, if_err, on_err, on_ok, part_more, put_more, put_part_more}
use Rattle.sq_commands.proofs.Sortings.{stopped_before}
use Rattle.sq_commands.proofs.feed_lines.put_last_items.Goals as goal

-- a prefix of the lines of some of the last items was put
pub returns-in-Err-clause-part : goal.returns-in-Err-clause-part
returns-in-Err-clause-part g c =
    let k = g.K.Sink in
    let arrival = c.args.arrival in
    let order = c.args.order.now in
    let feed = c.args.feed.now in
    let new = c.put_piece.new.feed in
    let before = k.written c.args.sink.now in
    let after = k.written c.put_piece.new.sink in
    let (count, part) = c.in-Err.ensures.part in
    let (found, fed, put) = fed_part arrival order feed new (take count []) before after part c.requires.none in
    let came = told_of_all arrival feed.ear found in
    let rest = told_of_all arrival new.ear (awaited new.reader []) in
    let last = told_ended (ear_at_last arrival feed) in
    part_more order (told_of_all arrival feed.ear (awaited feed.reader [])) last before after
    (subst (λ l. HasPutPart order l (WroteFront before after)) (told_of_front arrival feed new count found fed)
    (part_more order came rest before after put))

-- all last items were heard
pub returns-clause-heard : goal.returns-clause-heard
returns-clause-heard g c =
    let arrival = c.args.arrival in
    let feed = c.args.feed.now in
    let one = c.put_piece.new.feed in
    let done = c.in-Ok.ensures.done in
    let at_end = c.in-Ok.ensures.ended refl c.requires.ended in
    let (came, has, (put, seen)) = c.in-Ok.ensures.put in
    let all = all_given feed.reader one.reader has.found has.fed.follows at_end (no_calls one done) in
    on_ok c.put_piece-2.result
    (λ second. let (told, next, (put2, seen2)) = second in
    (told_settled arrival one c.settle.new.self c.put_piece-2.new.feed [] told next refl c.settle.ensures
    (none_ready one done) (nothing_left one.reader at_end (no_calls one done))).1
    ∙ ap ear_ended (has.fed.heard ∙ ap (ear_after_all arrival feed.ear) all))
    c.put_piece-2.ensures.put

-- the lines of the last items and of the rows that waited were put
pub returns-clause-put : goal.returns-clause-put
returns-clause-put g c =
    let k = g.K.Sink in
    let arrival = c.args.arrival in
    let feed = c.args.feed.now in
    let one = c.put_piece.new.feed in
    let three = c.put_piece-2.new.feed in
    let order = c.args.order.now in
    let mid = c.put_piece.new.order in
    let new = c.put_piece-2.new.order in
    let done = c.in-Ok.ensures.done in
    let at_end = c.in-Ok.ensures.ended refl c.requires.ended in
    let P = HasPut k c.args.sink.now c.put_piece.new.sink in
    let Q = HasPut k c.put_piece.new.sink c.put_piece-2.new.sink in
    let R = HasPut k c.args.sink.now c.put_piece-2.new.sink in
    let (found, fed, (put, seen)) = fed_text arrival feed one [] (λ came. HasPutSorted order mid came P
    × (c.put_piece.new.units ≡ watched_all c.args.units.now came))
    c.in-Ok.ensures.put c.requires.none (none_ready one done) in
    let all = all_given feed.reader one.reader found fed.follows at_end (no_calls one done) in
    let ear = fed.heard ∙ ap (ear_after_all arrival feed.ear) all in
    let last = told_ended (ear_at_last arrival feed) in
    on_ok c.put_piece-2.result
    (λ second. let ((told, next, (put2, seen2)), left) = second in
    let is = (told_settled arrival one c.settle.new.self three [] told next refl c.settle.ensures
    (none_ready one done) (nothing_left one.reader at_end (no_calls one done))).0 ∙ ap told_ended ear in
    let told_is : told ≡ last = sym (append-nil told) ∙ ap (λ l. told ++ l) (sym (none_ready three left)) ∙ is in
    put_more order mid new (told_of_all arrival feed.ear (awaited feed.reader [])) last P Q R
    (λ x y. HasPut-trans k c.args.sink.now c.put_piece.new.sink c.put_piece-2.new.sink x y)
    (subst (λ l. HasPutSorted order mid (told_of_all arrival feed.ear l) P) all put)
    (subst (λ l. HasPutSorted mid new l Q) told_is put2))
    (both_ok _ _ c.put_piece-2.result c.put_piece-2.ensures.put c.put_piece-2.ensures.done)

-- a prefix of the lines of the rows that waited was put
pub returns-clause-part : goal.returns-clause-part
returns-clause-part g c =
    let k = g.K.Sink in
    let arrival = c.args.arrival in
    let feed = c.args.feed.now in
    let one = c.put_piece.new.feed in
    let three = c.put_piece-2.new.feed in
    let order = c.args.order.now in
    let mid = c.put_piece.new.order in
    let before = k.written c.args.sink.now in
    let between = k.written c.put_piece.new.sink in
    let after = k.written c.put_piece-2.new.sink in
    let done = c.in-Ok.ensures.done in
    let at_end = c.in-Ok.ensures.ended refl c.requires.ended in
    let P = HasPut k c.args.sink.now c.put_piece.new.sink in
    let (found, fed, (put, seen)) = fed_text arrival feed one [] (λ came. HasPutSorted order mid came P
    × (c.put_piece.new.units ≡ watched_all c.args.units.now came))
    c.in-Ok.ensures.put c.requires.none (none_ready one done) in
    let all = all_given feed.reader one.reader found fed.follows at_end (no_calls one done) in
    let ear = fed.heard ∙ ap (ear_after_all arrival feed.ear) all in
    let last = told_ended (ear_at_last arrival feed) in
    on_err c.put_piece-2.result
    (λ second. let (count, (told, next, part)) = second in
    let is = (told_settled arrival one c.settle.new.self three (take count []) told next (take_nothing count [] refl)
    c.settle.ensures (none_ready one done) (nothing_left one.reader at_end (no_calls one done))).0
    ∙ ap told_ended ear in
    put_part_more order mid (told_of_all arrival feed.ear (awaited feed.reader [])) last P
    (WroteFront between after) (WroteFront before after)
    (λ x y p q. wrote_after before between after x y p.0 q)
    (subst (λ l. HasPutSorted order mid (told_of_all arrival feed.ear l) P) all put)
    (subst (λ l. HasPutPart mid l (WroteFront between after)) is
    (part_more mid told three.ready between after part)))
    c.put_piece-2.ensures.part

pub returns-clause-stopped : goal.returns-clause-stopped
returns-clause-stopped g c =
    let (came, has, ((goes, fine, put), seen)) = c.in-Ok.ensures.put in
    if_err c.put_piece-2.result
    (λ fault. stopped_before c.args.order.now c.put_piece.new.order came
    (g.K.Sink.has_failed c.put_piece-2.new.sink) fault goes) c.put_piece-2.ensures.stopped

-- all squitters were watched
pub returns-clause-watched : goal.returns-clause-watched
returns-clause-watched g c =
    let arrival = c.args.arrival in
    let units = c.args.units.now in
    let feed = c.args.feed.now in
    let one = c.put_piece.new.feed in
    let three = c.put_piece-2.new.feed in
    let done = c.in-Ok.ensures.done in
    let at_end = c.in-Ok.ensures.ended refl c.requires.ended in
    let (found, fed, seen) = fed_text arrival feed one [] (λ came. HasPutSorted c.args.order.now c.put_piece.new.order
    came (HasPut g.K.Sink c.args.sink.now c.put_piece.new.sink) × (c.put_piece.new.units ≡ watched_all units came))
    c.in-Ok.ensures.put c.requires.none (none_ready one done) in
    let all = all_given feed.reader one.reader found fed.follows at_end (no_calls one done) in
    let ear = fed.heard ∙ ap (ear_after_all arrival feed.ear) all in
    let items = told_of_all arrival feed.ear (awaited feed.reader []) in
    on_ok c.put_piece-2.result
    (λ second. let ((told, next, (put2, seen2)), left) = second in
    let is = (told_settled arrival one c.settle.new.self three [] told next refl c.settle.ensures
    (none_ready one done) (nothing_left one.reader at_end (no_calls one done))).0 ∙ ap told_ended ear in
    let told_is = sym (append-nil told) ∙ ap (λ l. told ++ l) (sym (none_ready three left)) ∙ is in
    seen2 ∙ ap₂ watched_all (seen.1 ∙ ap (λ l. watched_all units (told_of_all arrival feed.ear l)) all) told_is
    ∙ sym (watched_more units items (told_ended (ear_at_last arrival feed))))
    (both_ok _ _ c.put_piece-2.result c.put_piece-2.ensures.put c.put_piece-2.ensures.done)
