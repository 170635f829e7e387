use Rattle.std.proofs.Common.{[], sym, append-nil}
use Rattle.std.proofs.lemmas.Result.{on_err_weaker, on_ok_weaker}
use Rattle.sq_devices.proofs.Puts.{Appends-hidden}
use Rattle.sq_devices.specs.Device.{KeepsOrHides}
use Rattle.sq_devices.proofs.texts.put_last.Goals as goal

-- a failed finish leaves the whole text
pub returns-clause-part : goal.returns-clause-part
returns-clause-part g c =
    on_err_weaker c.finish.result
    (λ (kept : KeepsOrHides (g.K.Sink.written c.put_all.new.sink) (g.K.Sink.written c.finish.new.self)). (
      c.args.text.now,
      ([], sym (append-nil c.args.text.now)),
      Appends-hidden _ _ _ c.args.text.now c.in_ok-put_all.ensures.appended kept,
    ))
    c.finish.ensures.kept

-- after the text the sink is finished
pub returns-clause-sent : goal.returns-clause-sent
returns-clause-sent g c =
    on_ok_weaker c.finish.result
    (λ (sent : g.K.Sink.Finished c.put_all.new.sink c.finish.new.self). (
      c.put_all.new.sink,
      c.in_ok-put_all.ensures.put,
      sent,
    ))
    c.finish.ensures.sent
