use Rattle.std.proofs.Common.{[], ◌∷◌, subst}
use Rattle.std.proofs.lemmas.Result.{err_from_is_err_and}
use Rattle.sq_devices.specs.Device.{WroteFront}
use Rattle.sq_feed.specs.Feeds.{lines_of}
use Rattle.sq_commands.proofs.Sortings.{wrote_front_more}
use Rattle.sq_commands.proofs.feed_lines.put_line.Goals as goal

-- a prefix of the text was put, which the line would have followed
pub returns-in_err-put_all-clause-part : goal.returns-in_err-put_all-clause-part
returns-in_err-put_all-clause-part g c =
    let k = g.K.Sink in
    let p = err_from_is_err_and c.from_residual.result c.from_residual.ensures.1 in
    rw (p.1) (wrote_front_more (k.written c.args.sink.now) (k.written c.put_all.new.sink) c.args.text.now.bytes
    (lines_of (c.args.one.now ∷ []))
    (subst (WroteFront (k.written c.args.sink.now) (k.written c.put_all.new.sink)) c.as_bytes.ensures.value
    c.in_err-put_all.ensures.part))
