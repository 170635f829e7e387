use Rattle.std.proofs.Common.{List, OnErr, ℕ, subst}
use Rattle.sq_devices.specs.Device.{WroteFront}
use Rattle.sq_log.proofs.telling.put_text.Goals as goal

-- what the sink took before it failed
pub returns-clause-part : goal.returns-clause-part
returns-clause-part g c =
    subst (λ (text : List ℕ). OnErr c.put_bytes.result (WroteFront (g.K.Sink.written c.args.sink.now)
    (g.K.Sink.written c.put_bytes.new.sink) text)) c.as_bytes.ensures.value c.put_bytes.ensures.part
